-- The new values are those of the longer records, and what the record says is noted.
use Rattle.std.proofs.Common.{◌≡◌, ◌∙◌, List, [], ◌∷◌, ◌++◌, length, drop, ap, sym, subst}
use Rattle.std.specs.Prelude.{slice_get}
use Rattle.std.specs.Option.{option_map}
use Rattle.std.proofs.lemmas.List.{map-append}
use Rattle.pv_format.specs.Record as model
use Rattle.pv_replay.specs.Values.{record_of, records_of}
use Rattle.pv_store.specs.Held.{AreShown, ArePrepared, AreKnown, ArePlaced, AreTouched, Values, replaced_at}
use Rattle.pv_store.specs.Kept.{Kept, Planned, IsPlannedOn}
use Rattle.pv_store.proofs.HeldLemmas.{applied-places, applied-values}
use Rattle.pv_store.proofs.LoadLemmas.{front-whole}
use Rattle.pv_store.proofs.TouchedLemmas.{noted-touched}
use Rattle.pv_store.proofs.store.Store.apply.Goals as goal

pub invariant_of-self : goal.invariant_of-self
invariant_of-self c =
    let inside = c.self.inside in
    let kept : Kept = record {
      catalog = inside.catalog.value;
      site = inside.site.0;
      records = records_of inside.records.items;
      room = record { promises = inside.promises.room; outcomes = inside.outcomes.room; places = inside.dependents.places };
    } in
    let change : Planned = record { appended = record_of c.change.inside.record; values = c.change.inside.values.items } in
    let planned : IsPlannedOn kept change =
    subst (λ (of : Planned). IsPlannedOn kept of) (sym c.change.view_is) (subst (λ (of : Kept). IsPlannedOn of c.args.change) (sym c.self.view_is) c.requires) in
    let longer : List model.Record = kept.records ++ change.appended ∷ [] in
    let grown : records_of c.and-self-inside.result.items ≡ longer = ap records_of c.and-self-inside.ensures ∙ map-append record_of inside.records.items (c.change.inside.record ∷ []) in
    let put : Values = c.put_values.new.values in
    let same : length put ≡ length inside.values.items = c.put_values.auto.values ∙ ap length c.deref_mut.ensures.value in
    let shown : AreShown kept.catalog kept.site longer longer put = applied-values kept change planned inside.values.items put c.self.invariant.values
    (λ item. c.put_values.ensures.values item ∙ ap (λ (values : Values). option_map (λ old. replaced_at item change.values old) (slice_get values item)) c.deref_mut.ensures.value) same in
    let whole = front-whole put (drop (length put) inside.values.items) inside.values.len (inside.values.ok.0 ∙ sym same) in
    subst (λ (held : Values). record {
      values : AreShown kept.catalog kept.site (records_of c.and-self-inside.result.items) (records_of c.and-self-inside.result.items) held;
      prepared : ArePrepared c.note.new.promises.txns (records_of c.and-self-inside.result.items);
      known : AreKnown c.note.new.outcomes.outcomes (records_of c.and-self-inside.result.items);
      placed : ArePlaced kept.catalog kept.site (records_of c.and-self-inside.result.items) (records_of c.and-self-inside.result.items) c.note.new.dependents.places;
      touched : AreTouched held c.note.new.dependents.touched;
    }) (sym whole)
    (subst (λ (records : List model.Record). record {
      values : AreShown kept.catalog kept.site records records put;
      prepared : ArePrepared c.note.new.promises.txns records;
      known : AreKnown c.note.new.outcomes.outcomes records;
      placed : ArePlaced kept.catalog kept.site records records c.note.new.dependents.places;
      touched : AreTouched put c.note.new.dependents.touched;
    }) (sym grown)
    (record {
      values = shown;
      prepared = c.note.ensures.prepared kept.records c.self.invariant.prepared;
      known = c.note.ensures.known kept.records c.self.invariant.known;
      placed = applied-places kept change planned c.note.new.dependents.places
          (λ txn item untold is. c.note.ensures.placed txn item untold (c.put_values.ensures.more txn item is));
      touched = noted-touched kept.catalog kept.site kept.records change.appended put shown c.put_values.new.dependents.touched c.note.new.dependents.touched
          (c.put_values.ensures.touched (subst (λ (values : Values). AreTouched values inside.dependents.touched) (sym c.deref_mut.ensures.value) c.self.invariant.touched))
          c.note.ensures.touched;
    }))
