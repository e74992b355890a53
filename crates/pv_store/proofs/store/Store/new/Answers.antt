-- Without records nothing is prepared, known or named.
use Rattle.std.proofs.Common.{◌≡◌, [], List, ap, sym, subst}
use Rattle.pv_base.specs.Catalog.{Declared}
use Rattle.pv_base.proofs.ContainsLemmas.{Contains-nil}
use Rattle.pv_format.specs.Record as model
use Rattle.pv_law_step.proofs.ShownLemmas.{shown-names}
use Rattle.pv_replay.specs.Values.{records_of}
use Rattle.pv_store.specs.Held.{AreShown, ArePrepared, AreKnown, ArePlaced, AreTouched, is_promised, outcome_in}
use Rattle.pv_store.proofs.TouchedLemmas.{declared-touched}
use Rattle.pv_store.proofs.store.Store.new.Goals as goal

pub invariant_of-result : goal.invariant_of-result
invariant_of-result c =
    let none : records_of c.new.result.items ≡ [] = ap records_of c.new.ensures in
    subst (λ (catalog : Declared). record {
      values : AreShown catalog c.args.site.0 (records_of c.new.result.items) (records_of c.new.result.items) c.in_ok-declared_values.field-0.items;
      prepared : ArePrepared c.new-2.result.txns (records_of c.new.result.items);
      known : AreKnown c.new-3.result.outcomes (records_of c.new.result.items);
      placed : ArePlaced catalog c.args.site.0 (records_of c.new.result.items) (records_of c.new.result.items) c.new-4.result.places;
      touched : AreTouched c.in_ok-declared_values.field-0.items c.new-4.result.touched;
    }) (sym c.of.ensures)
    (subst (λ (records : List model.Record). record {
      values : AreShown c.args.catalog.now c.args.site.0 records records c.in_ok-declared_values.field-0.items;
      prepared : ArePrepared c.new-2.result.txns records;
      known : AreKnown c.new-3.result.outcomes records;
      placed : ArePlaced c.args.catalog.now c.args.site.0 records records c.new-4.result.places;
      touched : AreTouched c.in_ok-declared_values.field-0.items c.new-4.result.touched;
    }) (sym none)
    (record {
      values = c.in_ok-declared_values.ensures;
      prepared = λ txn. ap (λ txns. is_promised txns txn) c.new-2.ensures;
      known = λ txn. ap (λ outcomes. outcome_in outcomes txn) c.new-3.ensures;
      placed = λ item txn home named. absurd (Contains-nil txn (shown-names c.args.catalog.now [] [] item txn named));
      touched = subst (AreTouched c.in_ok-declared_values.field-0.items) (sym c.new-4.ensures.touched) (declared-touched c.args.catalog.now c.args.site.0 c.in_ok-declared_values.field-0.items c.in_ok-declared_values.ensures);
    }))
