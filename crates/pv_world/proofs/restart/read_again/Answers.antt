use Rattle.std.proofs.Common.{◌≡◌, ◌∙◌, ◌++◌, ℕ, List, Some, None, Err, refl, sym, ap, subst}
use Rattle.std.specs.Prelude.{option_to_list}
use Rattle.std.specs.Global.{Vec}
use Rattle.std.proofs.lemmas.Option.{none-some}
use Rattle.pv_base.specs.Catalog.{Declared}
use Rattle.pv_format.specs.Contents.{SpellRecords}
use Rattle.pv_format.specs.Record.{Record}
use Rattle.pv_journal.specs.Opening.{place_in}
use Rattle.pv_law_format.proofs.ReplayLemmas.{written-read}
use Rattle.pv_replay.specs.Values.{contents_of, index_of, records_of}
use Rattle.pv_site.specs.Resumes.{Recovers}
use Rattle.pv_store.specs.Refusals.{too_many_in}
use Rattle.pv_store.specs.declared.error.StoreError.{StoreError}
use Rattle.pv_world.proofs.RecordLemmas.{narrow-is-taken}
use Rattle.pv_world.proofs.RestartDisks.{checkpointed, look-spells}
use Rattle.pv_world.proofs.restart.read_again.Goals as goal

pub unreachable-requires : goal.unreachable-requires
unreachable-requires c =
    let (added, standing, spells, replayable, plain) = c.requires in
    let records : List Record = c.args.left.records ++ option_to_list added in
    let none : place_in c.in-Err-NotOurs.field-0 ≡ None = ((c.in-Err-NotOurs.ensures.answer c.args.disk.now.image.content refl).gives spells.contents (checkpointed spells.contents standing _ spells.holds.stands)).1 in
    none-some c.in-Err-NotOurs.field-0-0 (sym none ∙ ap place_in c.in-Err-NotOurs.field-0-is)

pub unreachable-requires-in-Err-BadRecord : goal.unreachable-requires-in-Err-BadRecord
unreachable-requires-in-Err-BadRecord c =
    let (added, standing, spells, replayable, plain) = c.requires in
    let records : List Record = c.args.left.records ++ option_to_list added in
    let spelled : SpellRecords records (contents_of c.in-Ok.contents.items) = written-read records (contents_of c.in-Ok.contents.items)
    (look-spells records standing None None c.args.disk.now (contents_of c.in-Ok.contents.items) spells
    (λ contents journal. ((c.in-Ok.ensures.answer c.args.disk.now.image.content refl).gives contents journal).0)) in
    let given : SpellRecords records (contents_of c.deref.result.now) =
    subst (λ (contents : List (Vec ℕ)). SpellRecords records (contents_of contents)) (sym c.deref.ensures.value) spelled in
    let none : index_of c.in-Err-BadRecord.field-0 ≡ None = (c.in-Err-BadRecord.ensures.answer.gives records given).1 in
    none-some c.in-Err-BadRecord.field-0-0 (sym none ∙ ap index_of c.in-Err-BadRecord.field-0-is)

pub again-requires-clause-range : goal.again-requires-clause-range
again-requires-clause-range c =
    let read : List Record = records_of c.in-Ok-replay.past.records.items in
    c.logs_tell_of_records.ensures.range read (contents_of c.deref.result.now) c.in-Ok-replay.ensures.answer.given

pub unreachable-requires-in-Err-TooManyOutcomes : goal.unreachable-requires-in-Err-TooManyOutcomes
unreachable-requires-in-Err-TooManyOutcomes c =
    let (added, standing, spells, replayable, plain) = c.requires in
    let records : List Record = c.args.left.records ++ option_to_list added in
    let catalog : Declared = c.args.left.catalog in
    let site : ℕ = c.args.left.me in
    let read : List Record = records_of c.in-Ok-replay.past.records.items in
    let spelled : SpellRecords records (contents_of c.in-Ok.contents.items) = written-read records (contents_of c.in-Ok.contents.items)
    (look-spells records standing None None c.args.disk.now (contents_of c.in-Ok.contents.items) spells
    (λ contents journal. ((c.in-Ok.ensures.answer c.args.disk.now.image.content refl).gives contents journal).0)) in
    let given : SpellRecords records (contents_of c.deref.result.now) =
    subst (λ (contents : List (Vec ℕ)). SpellRecords records (contents_of contents)) (sym c.deref.ensures.value) spelled in
    let same : read ≡ records = (c.in-Ok-replay.ensures.answer.gives records given).0 in
    let none : too_many_in catalog site read ≡ None =
    ap (λ (all : List Record). too_many_in catalog site all) same ∙ narrow-is-taken catalog site records replayable.narrow in
    let told : too_many_in catalog site read ≡ Some c.in-Err-TooManyOutcomes.field-0-0 =
    subst (λ (e : StoreError). Recovers site catalog c.args.left.surplus read (Err e)) c.in-Err-TooManyOutcomes.field-0-is c.in-Err-TooManyOutcomes.ensures in
    none-some c.in-Err-TooManyOutcomes.field-0-0 (sym none ∙ told)

pub returns-in-Ok-again-clause-left : goal.returns-in-Ok-again-clause-left
returns-in-Ok-again-clause-left c = λ records standing spells.
    let spelled : SpellRecords records (contents_of c.in-Ok.contents.items) = written-read records (contents_of c.in-Ok.contents.items)
    (look-spells records standing None None c.args.disk.now (contents_of c.in-Ok.contents.items) spells
    (λ contents journal. ((c.in-Ok.ensures.answer c.args.disk.now.image.content refl).gives contents journal).0)) in
    let given : SpellRecords records (contents_of c.deref.result.now) =
    subst (λ (contents : List (Vec ℕ)). SpellRecords records (contents_of contents)) (sym c.deref.ensures.value) spelled in
    c.in-Ok-again.ensures.0
    ∙ ap (λ (all : List Record). record { me = c.args.left.me; catalog = c.args.left.catalog; records = all; surplus = c.args.left.surplus }) (c.in-Ok-replay.ensures.answer.gives records given).0
