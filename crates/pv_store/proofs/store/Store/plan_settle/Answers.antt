-- The index has all items whose values name the transaction.
use Rattle.std.proofs.Common.{◌∙◌, ℕ, List, map, sym, subst}
use Rattle.pv_base.specs.declared.catalog.ItemId.{ItemId}
use Rattle.pv_format.specs.Record.{outcome_known}
use Rattle.pv_model.specs.Alternatives.{Read}
use Rattle.pv_replay.specs.Values.{records_of}
use Rattle.pv_store.specs.Held.{Values, AreShown}
use Rattle.pv_store.specs.Kept.{Kept, IsPlannedOn}
use Rattle.pv_store.proofs.MapFacts.{any-map}
use Rattle.pv_store.proofs.SettlingLemmas.{planned-settle}
use Rattle.pv_store.proofs.TouchedLemmas.{home-names}
use Rattle.pv_store.proofs.store.Store.plan_settle.Goals as goal

pub returns-clause-planned : goal.returns-clause-planned
returns-clause-planned c =
    let inside = c.self.inside in
    let kept : Kept = record {
      catalog = inside.catalog.value;
      site = inside.site.0;
      records = records_of inside.records.items;
      room = record { promises = inside.promises.room; outcomes = c.reserve.new.self.room; places = inside.dependents.places };
    } in
    let are : AreShown kept.catalog kept.site kept.records kept.records c.deref.result.now =
    subst (λ (values : Values). AreShown kept.catalog kept.site kept.records kept.records values) (sym c.deref.ensures.value) c.self.invariant.values in
    let items : List ℕ = map (λ (item : ItemId). item.0) c.touched.result.now in
    subst (λ (reads : List Read). IsPlannedOn kept (record { appended = outcome_known c.args.txn c.args.commits; values = reads }))
    (sym (c.in_ok-values.ensures kept.catalog kept.site kept.records are))
    (planned-settle kept c.deref.result.now are c.self.invariant.placed c.args.txn c.args.commits items
    (λ item home named.
    any-map item c.touched.result.now
    ∙ c.touched.ensures.items item
    ∙ c.self.invariant.touched item c.args.txn
    ∙ home-names kept.catalog kept.site kept.records kept.records inside.values.items c.self.invariant.values item c.args.txn home
    ∙ named) c.in_ok-reserve.ensures.room)
