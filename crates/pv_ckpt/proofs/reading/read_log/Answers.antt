use Rattle.std.proofs.Common.{rules, arith, ◌≡◌, inl, refl, ◌∙◌, [], ◌∷◌, Some, ◌++◌}
use Rattle.pv_format.specs.Journal.{records_of}
use Rattle.pv_journal.specs.Opening.{contents_in}
use Rattle.pv_law_calls.proofs.GivenLemmas.{gives_more}
use Rattle.pv_law_calls.proofs.LookLemmas.{looked_err, looked_ok}
use Rattle.pv_law_checkpoints.specs.TwoAreas.{block_of}
use Rattle.pv_ckpt.proofs.FoundLemmas.{cut_known, cut_read, found_known, found_read, gives_three, lacks_known, lacks_read}
use Rattle.pv_ckpt.proofs.FrontLemmas.{rootless_read}
use Rattle.pv_ckpt.proofs.reading.read_log.Goals as goal

pub returns-in_err-front-clause-gave_none : goal.returns-in_err-front-clause-gave_none
returns-in_err-front-clause-gave_none g c place known =
    let gave = c.read_front.ensures.gave_none place (search rules) in
    (gave.0, gave.1, (gave.0, inl (refl, gave.2.0), rootless_read gave.0 place gave.2.1))

pub returns-in_err-contents-clause-effect : goal.returns-in_err-contents-clause-effect
returns-in_err-contents-clause-effect g c =
    looked_err g.D.Disk.model c.args.disk.now c.read_front.new.disk c.read_block.new.disk c.in_err-contents.field-0.0 c.read_block.result c.from_residual-in_err-contents.result c.in_err-contents.was
    (search rules) c.in_ok-front.ensures.effect c.read_block.ensures.effect

pub returns-in_err-contents-clause-not_ours : goal.returns-in_err-contents-clause-not_ours
returns-in_err-contents-clause-not_ours g c place known bytes is =
    let front = c.in_ok-front.ensures.front in
    let here = front.is bytes is in
    let told = c.read_block.ensures.not_ours place (search rules) in
    lacks_known front.read c.in_ok-front.front.root front.root_is front.few bytes c.in_ok-front.front.size place here.0 here.1 told.0
    (told.1 bytes (c.in_ok-front.ensures.effect.1 ∙ is))

pub returns-in_err-contents-clause-gave_none : goal.returns-in_err-contents-clause-gave_none
returns-in_err-contents-clause-gave_none g c place known =
    let M = g.D.Disk.model in
    let front = c.in_ok-front.ensures.front in
    let told = c.read_block.ensures.not_ours place (search rules) in
    let none = c.read_block.ensures.gave_none place (search rules) in (
      front.read ++ none.0,
      gives_more M c.args.disk.now c.read_front.new.disk c.read_block.new.disk front.read none.0 front.gave none.1,
      lacks_read front.read c.in_ok-front.front.root front.root_is front.few place none.0 told.0 none.2,
    )

pub returns-in_err-end-clause-effect : goal.returns-in_err-end-clause-effect
returns-in_err-end-clause-effect g c =
    let M = g.D.Disk.model in
    let before = looked_ok M c.args.disk.now c.read_front.new.disk c.read_block.new.disk c.in_ok-front.ensures.effect c.in_ok-contents.ensures.effect in
    looked_err M c.args.disk.now c.read_block.new.disk c.read_records.new.disk c.in_err-end.field-0.0 c.read_records.result c.from_residual-in_err-end.result c.in_err-end.was
    (search rules) before c.read_records.ensures.effect

pub returns-in_err-end-clause-not_ours : goal.returns-in_err-end-clause-not_ours
returns-in_err-end-clause-not_ours g c place known bytes is =
    let M = g.D.Disk.model in
    let front = c.in_ok-front.ensures.front in
    let here = front.is bytes is in
    let second : M.content c.read_front.new.disk ≡ Some bytes = c.in_ok-front.ensures.effect.1 ∙ is in
    let block = c.in_ok-contents.ensures in
    let cut = c.read_records.ensures.not_ours place (search rules) in
    let reads = cut.1 in
    let stands = reads.stands bytes (block.effect.1 ∙ second) in
    cut_known front.read c.in_ok-front.front.root front.root_is front.few c.in_ok-front.front.size (contents_in c.in_ok-contents.contents) cut.0 block.in_range block.short block.filled
    bytes here.0 here.1 (block.stands bytes second) place stands.0 reads.short stands.2 reads.end_is stands.1

pub returns-in_err-end-clause-gave_none : goal.returns-in_err-end-clause-gave_none
returns-in_err-end-clause-gave_none g c place known =
    let M = g.D.Disk.model in
    let front = c.in_ok-front.ensures.front in
    let block = c.in_ok-contents.ensures in
    let cut = c.read_records.ensures.not_ours place (search rules) in
    let reads = cut.1 in
    let packed = contents_in c.in_ok-contents.contents in (
      front.read ++ (block_of packed ++ (records_of cut.0 ++ 1 ∷ reads.read)),
      gives_three M c.args.disk.now c.read_front.new.disk c.read_block.new.disk c.read_records.new.disk front.read (block_of packed) (records_of cut.0 ++ 1 ∷ reads.read) front.gave block.gave
          reads.gave,
      cut_read front.read c.in_ok-front.front.root front.root_is front.few c.in_ok-front.front.size packed cut.0 block.in_range block.short block.filled (1 ∷ reads.read) (omega arith)
          place reads.read refl reads.few reads.short reads.end_is,
    )

pub returns-clause-found : goal.returns-clause-found
returns-clause-found g c bytes is =
    let M = g.D.Disk.model in
    let front = c.in_ok-front.ensures.front in
    let here = front.is bytes is in
    let second : M.content c.read_front.new.disk ≡ Some bytes = c.in_ok-front.ensures.effect.1 ∙ is in
    let block = c.in_ok-contents.ensures in
    let records = c.in_ok-end.ensures.records in
    let reads = records.1 in
    let stands = reads.stands bytes (block.effect.1 ∙ second) in
    let packed = contents_in c.in_ok-contents.contents in (
      packed,
      records.0,
      found_known front.read c.in_ok-front.front.root front.root_is front.few c.in_ok-front.front.size packed records.0 block.in_range block.short block.filled
          bytes here.0 here.1 (block.stands bytes second) c.in_ok-end.end stands.0 stands.1 reads.short stands.2 reads.end_is stands.3,
      records.2,
    )

pub returns-clause-gave : goal.returns-clause-gave
returns-clause-gave g c =
    let M = g.D.Disk.model in
    let front = c.in_ok-front.ensures.front in
    let block = c.in_ok-contents.ensures in
    let records = c.in_ok-end.ensures.records in
    let reads = records.1 in
    let packed = contents_in c.in_ok-contents.contents in
    let found =
    found_read front.read c.in_ok-front.front.root front.root_is front.few c.in_ok-front.front.size packed records.0 block.in_range block.short block.filled (reads.gate ∷ []) (omega arith)
    c.in_ok-end.end reads.gate refl reads.short reads.closed reads.end_is in (
      front.read ++ (block_of packed ++ (records_of records.0 ++ reads.gate ∷ [])),
      gives_three M c.args.disk.now c.read_front.new.disk c.read_block.new.disk c.read_records.new.disk front.read (block_of packed) (records_of records.0 ++ reads.gate ∷ []) front.gave block.gave
          reads.gave,
      (found.0, found.1, (packed, records.0, found.2, records.2)),
    )
