-- Everything is made first, and then put in place of what a store without records holds.
use Rattle.std.proofs.Common.{◌≡◌, ◌∙◌, [], ℕ, Bool, List, ap, sym, subst}
use Rattle.std.specs.Prelude.{Ok, Err}
use Rattle.std.proofs.lemmas.Result.{err_from_is_err_and}
use Rattle.pv_base.specs.Catalog.{Declared}
use Rattle.pv_base.specs.declared.txn.TxnId.{TxnId}
use Rattle.pv_format.specs.Record as model
use Rattle.pv_replay.specs.Values.{records_of}
use Rattle.pv_replay.specs.declared.record.Record.{Record}
use Rattle.pv_store.specs.Held.{AreKnown, ArePlaced, ArePrepared, AreShown, AreTouched, Values}
use Rattle.pv_store.specs.Kept.{Kept}
use Rattle.pv_store.specs.Refusals.{AnswersFor, too_many_in}
use Rattle.pv_store.proofs.PlanLemmas.{accepted-as, memory-answers, refused-as}
use Rattle.pv_store.proofs.store.Store.load.Goals as goal

-- what a store without records holds
declared-of : (catalog : Declared) (site : ℕ) (records : List model.Record) (values same : Values) → records ≡ [] → same ≡ values → AreShown catalog site records records values
    → AreShown catalog site [] [] same
declared-of catalog site records values same none is are =
    subst (λ (values : Values). AreShown catalog site [] [] values) (sym is) (subst (λ (records : List model.Record). AreShown catalog site records records values) none are)

-- what is known of the records where they lie
known-of : (outcomes : List (TxnId × Bool)) (records same : List Record) → same ≡ records → AreKnown outcomes (records_of same) → AreKnown outcomes (records_of records)
known-of outcomes records same is known = subst (λ (records : List Record). AreKnown outcomes (records_of records)) is known

pub values_of-requires : goal.values_of-requires
values_of-requires c =
    let inside = c.self.inside in
    let none = ap (λ (kept : Kept). kept.records) c.self.view_is ∙ c.requires.new in (
      inside.catalog.value,
      inside.site.0,
      known-of c.in_ok-noted.noted.outcomes.outcomes c.deref-3.result.now c.deref.result.now (c.deref.ensures.value ∙ sym c.deref-3.ensures.value) c.in_ok-noted.ensures.known,
      declared-of inside.catalog.value inside.site.0 (records_of inside.records.items) inside.values.items c.deref-2.result.now none c.deref-2.ensures.value c.self.invariant.values,
    )

pub returns-in_err-noted-clause-answer : goal.returns-in_err-noted-clause-answer
returns-in_err-noted-clause-answer c = memory-answers _ c.from_residual.result c.from_residual.ensures.1

pub returns-in_err-loaded-clause-answer : goal.returns-in_err-loaded-clause-answer
returns-in_err-loaded-clause-answer c =
    let inside = c.self.inside in
    let none = ap (λ (kept : Kept). kept.records) c.self.view_is ∙ c.requires.new in
    let known = known-of c.in_ok-noted.noted.outcomes.outcomes c.deref-3.result.now c.deref.result.now (c.deref.ensures.value ∙ sym c.deref-3.ensures.value) c.in_ok-noted.ensures.known in
    let declared = declared-of inside.catalog.value inside.site.0 (records_of inside.records.items) inside.values.items c.deref-2.result.now none c.deref-2.ensures.value c.self.invariant.values in
    let p = err_from_is_err_and c.from_residual-in_err-loaded.result c.from_residual-in_err-loaded.ensures.1 in
    subst (λ (kept : Kept). AnswersFor (too_many_in kept.catalog kept.site (records_of c.args.past.now.records.items)) c.from_residual-in_err-loaded.result) c.self.view_is
    (refused-as (too_many_in inside.catalog.value inside.site.0 (records_of c.args.past.now.records.items)) (too_many_in inside.catalog.value inside.site.0 (records_of c.deref-3.result.now))
    c.in_err-loaded.field-0.0 c.values_of.result c.from_residual-in_err-loaded.result c.in_err-loaded.was
    (p.1 ∙ ap Err p.2) (ap (λ (records : List Record). too_many_in inside.catalog.value inside.site.0 (records_of records)) c.deref-3.ensures.value)
    (c.values_of.ensures.answer inside.catalog.value inside.site.0 known declared))

pub returns-clause-answer : goal.returns-clause-answer
returns-clause-answer c =
    let inside = c.self.inside in
    let none = ap (λ (kept : Kept). kept.records) c.self.view_is ∙ c.requires.new in
    let known = known-of c.in_ok-noted.noted.outcomes.outcomes c.deref-3.result.now c.deref.result.now (c.deref.ensures.value ∙ sym c.deref-3.ensures.value) c.in_ok-noted.ensures.known in
    let declared = declared-of inside.catalog.value inside.site.0 (records_of inside.records.items) inside.values.items c.deref-2.result.now none c.deref-2.ensures.value c.self.invariant.values in
    subst (λ (kept : Kept). AnswersFor (too_many_in kept.catalog kept.site (records_of c.args.past.now.records.items)) (Ok tt)) c.self.view_is
    (accepted-as (too_many_in inside.catalog.value inside.site.0 (records_of c.args.past.now.records.items)) (too_many_in inside.catalog.value inside.site.0 (records_of c.deref-3.result.now))
    c.in_ok-loaded.loaded tt c.values_of.result c.in_ok-loaded.was
    (ap (λ (records : List Record). too_many_in inside.catalog.value inside.site.0 (records_of records)) c.deref-3.ensures.value)
    (c.values_of.ensures.answer inside.catalog.value inside.site.0 known declared))

pub invariant_of-self : goal.invariant_of-self
invariant_of-self c =
    let inside = c.self.inside in
    let noted = c.in_ok-noted.noted in
    let loaded = c.in_ok-loaded.loaded in
    let none = ap (λ (kept : Kept). kept.records) c.self.view_is ∙ c.requires.new in
    let same : c.deref.result.now ≡ c.deref-3.result.now = c.deref.ensures.value ∙ sym c.deref-3.ensures.value in
    let known = known-of noted.outcomes.outcomes c.deref-3.result.now c.deref.result.now same c.in_ok-noted.ensures.known in
    let declared = declared-of inside.catalog.value inside.site.0 (records_of inside.records.items) inside.values.items c.deref-2.result.now none c.deref-2.ensures.value c.self.invariant.values in
    subst (λ (records : List Record). record {
      values : AreShown inside.catalog.value inside.site.0 (records_of records) (records_of records) loaded.values.items;
      prepared : ArePrepared noted.promises.txns (records_of records);
      known : AreKnown noted.outcomes.outcomes (records_of records);
      placed : ArePlaced inside.catalog.value inside.site.0 (records_of records) (records_of records) loaded.dependents.places;
      touched : AreTouched loaded.values.items loaded.dependents.touched;
    }) (sym (c.in_ok-noted.ensures.records ∙ same))
    (record {
      values = c.in_ok-loaded.ensures.values inside.catalog.value inside.site.0 known declared;
      prepared = subst (λ (records : List Record). ArePrepared noted.promises.txns (records_of records)) same c.in_ok-noted.ensures.prepared;
      known = known;
      placed = c.in_ok-loaded.ensures.places inside.catalog.value inside.site.0 known declared;
      touched = c.in_ok-loaded.ensures.touched inside.catalog.value inside.site.0 declared;
    })
