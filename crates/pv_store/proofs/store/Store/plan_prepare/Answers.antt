-- Values, places and room are made before the change is given.
use Rattle.std.proofs.Common.{◌≡◌, ◌≤◌, ℕ, length, ◌∙◌, List, true, All, ap, sym, subst}
use Rattle.std.specs.Prelude.{Ok, Err, IsTrue}
use Rattle.pv_base.specs.declared.txn.TxnId.{TxnId}
use Rattle.pv_base.specs.Polyvalue.{names}
use Rattle.std.proofs.lemmas.Result.{err_from_is_err_and}
use Rattle.pv_base.specs.declared.limits.TheConstants.{HELD_NAMES}
use Rattle.pv_base.specs.Named.{names_of}
use Rattle.pv_protocol.specs.Lock.{is_home}
use Rattle.pv_protocol.specs.Shown.{shown}
use Rattle.pv_format.specs.Record.{prepared}
use Rattle.pv_model.specs.Alternatives.{Read}
use Rattle.pv_replay.specs.Values.{records_of}
use Rattle.pv_store.specs.Held.{AreShown, Values}
use Rattle.pv_store.specs.Kept.{Kept, IsPlannedOn, Planned, has_place}
use Rattle.pv_store.specs.Refusals.{AnswersFor, too_many_with}
use Rattle.pv_store.specs.Writes.{IsPromising}
use Rattle.pv_store.proofs.PlanLemmas.{accepted-as, memory-answers, refused-as, planned-promise, promise-count}
use Rattle.pv_store.proofs.WideLemmas.{tells-wide}
use Rattle.pv_store.proofs.store.Store.plan_prepare.Goals as goal

-- what a store shows is narrow
narrow-of : {kept same : Kept} {values : Values} → kept ≡ same → AreShown kept.catalog kept.site kept.records kept.records values
    → (item : ℕ) → IsTrue (is_home same.catalog same.site item) → length (names_of (shown same.catalog same.records item)) ≤ HELD_NAMES
narrow-of {kept} {same} {values} is are =
    subst (λ (kept : Kept). (item : ℕ) → IsTrue (is_home kept.catalog kept.site item) → length (names_of (shown kept.catalog kept.records item)) ≤ HELD_NAMES) is are.narrow

pub returns-in_err-values-clause-answer : goal.returns-in_err-values-clause-answer
returns-in_err-values-clause-answer c =
    let inside = c.self.inside in
    let records = records_of inside.records.items in
    let promising : IsPromising inside.catalog.value inside.site.0 records records inside.outcomes.outcomes c.deref.result.now =
    record { known = c.self.invariant.known; shown = subst (λ (values : Values). AreShown inside.catalog.value inside.site.0 records records values) (sym c.deref.ensures.value) c.self.invariant.values } in
    let kept : Kept = record {
      catalog = inside.catalog.value;
      site = inside.site.0;
      records = records;
      room = record { promises = inside.promises.room; outcomes = inside.outcomes.room; places = inside.dependents.places };
    } in
    let p = err_from_is_err_and c.from_residual.result c.from_residual.ensures.1 in
    subst (λ (kept : Kept). AnswersFor (too_many_with kept (prepared c.args.txn c.args.writes.now)) c.from_residual.result) c.self.view_is
    (refused-as (too_many_with kept (prepared c.args.txn c.args.writes.now)) _ c.in_err-values.field-0.0 c.values_after.result c.from_residual.result c.in_err-values.was
    (p.1 ∙ ap Err p.2) (promise-count kept c.args.txn c.args.writes.now) (c.values_after.ensures.answer inside.catalog.value inside.site.0 records records promising))

pub returns-in_err-place_all-clause-answer : goal.returns-in_err-place_all-clause-answer
returns-in_err-place_all-clause-answer c = memory-answers _ c.from_residual-in_err-place_all.result c.from_residual-in_err-place_all.ensures.1

pub returns-in_err-reserve-clause-answer : goal.returns-in_err-reserve-clause-answer
returns-in_err-reserve-clause-answer c = memory-answers _ c.from_residual-in_err-reserve.result c.from_residual-in_err-reserve.ensures.1

pub returns-in_err-copy_reads-clause-answer : goal.returns-in_err-copy_reads-clause-answer
returns-in_err-copy_reads-clause-answer c = memory-answers _ c.from_residual-in_err-copy_reads.result c.from_residual-in_err-copy_reads.ensures.1

pub returns-clause-answer : goal.returns-clause-answer
returns-clause-answer c =
    let inside = c.self.inside in
    let records = records_of inside.records.items in
    let promising : IsPromising inside.catalog.value inside.site.0 records records inside.outcomes.outcomes c.deref.result.now =
    record { known = c.self.invariant.known; shown = subst (λ (values : Values). AreShown inside.catalog.value inside.site.0 records records values) (sym c.deref.ensures.value) c.self.invariant.values } in
    let kept : Kept = record {
      catalog = inside.catalog.value;
      site = inside.site.0;
      records = records;
      room = record { promises = inside.promises.room; outcomes = inside.outcomes.room; places = inside.dependents.places };
    } in
    let change : Planned = record { appended = prepared c.args.txn c.in_ok-copy_reads.field-0.items; values = c.in_ok-values.values.items } in
    subst (λ (kept : Kept). AnswersFor (too_many_with kept (prepared c.args.txn c.args.writes.now)) (Ok change)) c.self.view_is
    (accepted-as (too_many_with kept (prepared c.args.txn c.args.writes.now)) _ c.in_ok-values.values change c.values_after.result c.in_ok-values.was
    (promise-count kept c.args.txn c.args.writes.now) (c.values_after.ensures.answer inside.catalog.value inside.site.0 records records promising))

pub returns-clause-planned : goal.returns-clause-planned
returns-clause-planned c =
    let inside = c.self.inside in
    let kept : Kept = record {
      catalog = inside.catalog.value;
      site = inside.site.0;
      records = records_of inside.records.items;
      room = record { promises = c.reserve.new.self.room; outcomes = inside.outcomes.room; places = c.place_all.new.dependents.places };
    } in
    let promising : IsPromising kept.catalog kept.site kept.records kept.records inside.outcomes.outcomes c.deref.result.now =
    record { known = c.self.invariant.known; shown = subst (λ (values : Values). AreShown kept.catalog kept.site kept.records kept.records values) (sym c.deref.ensures.value) c.self.invariant.values } in
    let new : List Read = c.in_ok-values.values.items in
    let put = c.in_ok-place_all.ensures.placed in
    subst (λ (writes : List Read). IsPlannedOn kept (record { appended = prepared c.args.txn writes; values = new })) (sym c.in_ok-copy_reads.ensures)
    (planned-promise kept inside.dependents.places c.in_ok-place_all.ensures.more c.self.invariant.placed c.args.txn c.args.writes.now new
    (c.in_ok-values.ensures.values kept.catalog kept.site kept.records kept.records promising)
    (subst (λ (reads : List Read). All (λ (value : Read). (t : TxnId) → IsTrue (names value.cases t) → has_place c.place_all.new.dependents.places t value.item ≡ true) reads) c.deref-2.ensures.value put) c.in_ok-reserve.ensures.room)

pub returns-in_err-values-clause-wide : goal.returns-in_err-values-clause-wide
returns-in_err-values-clause-wide c = λ here of limit.
    tells-wide c.args.self.now (narrow-of c.self.view_is c.self.invariant.values) here of limit c.args.txn c.args.writes.now c.from_residual.result c.requires.here (returns-in_err-values-clause-answer c)

pub returns-in_err-place_all-clause-wide : goal.returns-in_err-place_all-clause-wide
returns-in_err-place_all-clause-wide c = λ here of limit.
    tells-wide c.args.self.now (narrow-of c.self.view_is c.self.invariant.values) here of limit c.args.txn c.args.writes.now c.from_residual-in_err-place_all.result c.requires.here (returns-in_err-place_all-clause-answer c)

pub returns-in_err-reserve-clause-wide : goal.returns-in_err-reserve-clause-wide
returns-in_err-reserve-clause-wide c = λ here of limit.
    tells-wide c.args.self.now (narrow-of c.self.view_is c.self.invariant.values) here of limit c.args.txn c.args.writes.now c.from_residual-in_err-reserve.result c.requires.here (returns-in_err-reserve-clause-answer c)

pub returns-in_err-copy_reads-clause-wide : goal.returns-in_err-copy_reads-clause-wide
returns-in_err-copy_reads-clause-wide c = λ here of limit.
    tells-wide c.args.self.now (narrow-of c.self.view_is c.self.invariant.values) here of limit c.args.txn c.args.writes.now c.from_residual-in_err-copy_reads.result c.requires.here (returns-in_err-copy_reads-clause-answer c)

pub returns-clause-wide : goal.returns-clause-wide
returns-clause-wide c = λ here of limit.
    tells-wide c.args.self.now (narrow-of c.self.view_is c.self.invariant.values) here of limit c.args.txn c.args.writes.now _ c.requires.here (returns-clause-answer c)
