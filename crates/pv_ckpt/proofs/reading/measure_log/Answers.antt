use Rattle.std.proofs.Common.{rules, arith, ◌≡◌, inl, inr, refl, ◌∙◌, [], ◌∷◌, Some, ◌++◌}
use Rattle.std.specs.List.{flat_map}
use Rattle.pv_law_calls.proofs.GivenLemmas.{gives_more}
use Rattle.pv_law_calls.proofs.LookLemmas.{looked_err, looked_ok}
use Rattle.pv_ckpt.specs.Outline.{gate_of, length_of}
use Rattle.pv_ckpt.proofs.FoundLemmas.{cut_known, found_known, found_read, gives_three, lacks_known, whole}
use Rattle.pv_ckpt.proofs.MeasureLemmas.{measured_size, outlined}
use Rattle.pv_ckpt.proofs.reading.measure_log.Goals as goal

pub returns-in_err-front-clause-gave_none : goal.returns-in_err-front-clause-gave_none
returns-in_err-front-clause-gave_none g c place known =
    let gave = c.read_front.ensures.gave_none place (search rules) in
    (gave.0, gave.1, inl gave.2)

pub returns-in_err-packed-clause-effect : goal.returns-in_err-packed-clause-effect
returns-in_err-packed-clause-effect g c =
    looked_err g.D.Disk.model c.args.disk.now c.read_front.new.disk c.measure_block.new.disk c.in_err-packed.field-0.0 c.measure_block.result c.from_residual-in_err-packed.result c.in_err-packed.was
    (search rules) c.in_ok-front.ensures.effect c.measure_block.ensures.effect

pub returns-in_err-packed-clause-not_ours : goal.returns-in_err-packed-clause-not_ours
returns-in_err-packed-clause-not_ours g c place known bytes is =
    let front = c.in_ok-front.ensures.front in
    let here = front.is bytes is in
    let told = c.measure_block.ensures.not_ours place (search rules) in
    lacks_known front.read c.in_ok-front.front.root front.root_is front.few bytes c.in_ok-front.front.size place here.0 here.1 told.0
    (told.1 bytes (c.in_ok-front.ensures.effect.1 ∙ is))

pub returns-in_err-packed-clause-gave_none : goal.returns-in_err-packed-clause-gave_none
returns-in_err-packed-clause-gave_none g c place known =
    let M = g.D.Disk.model in
    let root = c.in_ok-front.front.root in
    let front = c.in_ok-front.ensures.front in
    let told = c.measure_block.ensures.not_ours place (search rules) in
    let none = c.measure_block.ensures.gave_none place (search rules) in (
      front.read ++ none.0,
      gives_more M c.args.disk.now c.read_front.new.disk c.measure_block.new.disk front.read none.0 front.gave none.1,
      inr (inl (record {
        front = front.read;
        roots = whole front.read root front.root_is front.few;
        root = root;
        root_is = front.root_is;
        block = none.0;
        short = none.2;
        is = refl;
        place_is = told.0;
      })),
    )

pub returns-in_err-end-clause-effect : goal.returns-in_err-end-clause-effect
returns-in_err-end-clause-effect g c =
    let M = g.D.Disk.model in
    let before = looked_ok M c.args.disk.now c.read_front.new.disk c.measure_block.new.disk c.in_ok-front.ensures.effect c.in_ok-packed.ensures.effect in
    looked_err M c.args.disk.now c.measure_block.new.disk c.measure_records.new.disk c.in_err-end.field-0.0 c.measure_records.result c.from_residual-in_err-end.result c.in_err-end.was
    (search rules) before c.measure_records.ensures.effect

pub returns-in_err-end-clause-not_ours : goal.returns-in_err-end-clause-not_ours
returns-in_err-end-clause-not_ours g c place known bytes is =
    let M = g.D.Disk.model in
    let front = c.in_ok-front.ensures.front in
    let here = front.is bytes is in
    let second : M.content c.read_front.new.disk ≡ Some bytes = c.in_ok-front.ensures.effect.1 ∙ is in
    let block = c.in_ok-packed.ensures in
    let measured = block.measured in
    let cut = c.measure_records.ensures.not_ours place (search rules) in
    let reads = cut.1 in
    let stands = reads.stands bytes (block.effect.1 ∙ second) in
    cut_known front.read c.in_ok-front.front.root front.root_is front.few c.in_ok-front.front.size measured.0 cut.0 block.in_range measured.2.short measured.3
    bytes here.0 here.1 (measured.2.stands bytes second) place stands.0 reads.short stands.2 reads.end_is stands.1

pub returns-in_err-end-clause-gave_none : goal.returns-in_err-end-clause-gave_none
returns-in_err-end-clause-gave_none g c place known =
    let M = g.D.Disk.model in
    let root = c.in_ok-front.front.root in
    let front = c.in_ok-front.ensures.front in
    let block = c.in_ok-packed.ensures in
    let measured = block.measured in
    let packed = measured.0 in
    let cut = c.measure_records.ensures.not_ours place (search rules) in
    let reads = cut.1 in
    let tail = 1 ∷ reads.read in (
      front.read ++ (flat_map length_of packed ++ (flat_map gate_of cut.0 ++ tail)),
      gives_three M c.args.disk.now c.read_front.new.disk c.measure_block.new.disk c.measure_records.new.disk front.read (flat_map length_of packed) (flat_map gate_of cut.0 ++ tail) front.gave
          measured.2.gave reads.gave,
      inr (inr (record {
        front = front.read;
        roots = whole front.read root front.root_is front.few;
        root = root;
        root_is = front.root_is;
        behind_roots = block.in_range.behind_roots;
        in_range = block.in_range.in_range;
        packed = packed;
        fits = measured.2.short;
        filled = measured.3;
        later = cut.0;
        short = reads.short;
        rest = reads.read;
        few = reads.few;
        is = refl;
        place_is = reads.end_is;
      })),
    )

pub returns-clause-found : goal.returns-clause-found
returns-clause-found g c bytes is =
    let M = g.D.Disk.model in
    let root = c.in_ok-front.front.root in
    let front = c.in_ok-front.ensures.front in
    let here = front.is bytes is in
    let second : M.content c.read_front.new.disk ≡ Some bytes = c.in_ok-front.ensures.effect.1 ∙ is in
    let block = c.in_ok-packed.ensures in
    let measured = block.measured in
    let records = c.in_ok-end.ensures.records in
    let reads = records.1 in
    let stands = reads.stands bytes (block.effect.1 ∙ second) in (
      measured.0,
      records.0,
      found_known front.read root front.root_is front.few c.in_ok-front.front.size measured.0 records.0 block.in_range measured.2.short measured.3
          bytes here.0 here.1 (measured.2.stands bytes second) c.in_ok-end.end stands.0 stands.1 reads.short stands.2 reads.end_is stands.3,
      measured_size measured.0 records.0 c.in_ok-packed.packed root.place root.size c.in_ok-end.end measured.1 measured.3 reads.end_is,
    )

pub returns-clause-gave : goal.returns-clause-gave
returns-clause-gave g c =
    let M = g.D.Disk.model in
    let root = c.in_ok-front.front.root in
    let front = c.in_ok-front.ensures.front in
    let block = c.in_ok-packed.ensures in
    let measured = block.measured in
    let packed = measured.0 in
    let records = c.in_ok-end.ensures.records in
    let later = records.0 in
    let reads = records.1 in
    let tail = reads.gate ∷ [] in
    let found =
    found_read front.read root front.root_is front.few c.in_ok-front.front.size packed later block.in_range measured.2.short measured.3 tail (omega arith)
    c.in_ok-end.end reads.gate refl reads.short reads.closed reads.end_is in (
      front.read ++ (flat_map length_of packed ++ (flat_map gate_of later ++ tail)),
      gives_three M c.args.disk.now c.read_front.new.disk c.measure_block.new.disk c.measure_records.new.disk front.read (flat_map length_of packed) (flat_map gate_of later ++ tail) front.gave
          measured.2.gave reads.gave,
      (
        found.0,
        packed,
        later,
        outlined front.read tail found.0 packed later (whole front.read root front.root_is front.few) found.1,
        found.2,
        measured_size packed later c.in_ok-packed.packed root.place root.size c.in_ok-end.end measured.1 measured.3 reads.end_is,
      ),
    )
