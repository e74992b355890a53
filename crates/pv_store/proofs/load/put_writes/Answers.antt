-- The values of the written items are replaced, and have their places.
use Rattle.std.proofs.Common.{◌≡◌, ◌∙◌, List, All, true, subst}
use Rattle.std.specs.Prelude.{IsTrue}
use Rattle.pv_base.specs.declared.txn.TxnId.{TxnId}
use Rattle.pv_base.specs.Polyvalue.{names}
use Rattle.pv_model.specs.Alternatives.{Read}
use Rattle.pv_store.specs.Kept.{Places, has_place}
use Rattle.pv_store.proofs.LoadLemmas.{new-within, put-placed, put-shown}
use Rattle.pv_store.proofs.load.put_writes.Goals as goal

-- Each has its places by now.
placed : (places : Places) (reads same : List Read) → same ≡ reads
    → All (λ (value : Read). (t : TxnId) → IsTrue (names value.cases t) → has_place places t value.item ≡ true) same
    → All (λ (value : Read). (t : TxnId) → IsTrue (names value.cases t) → has_place places t value.item ≡ true) reads
placed places reads same is all =
    subst (λ (reads : List Read). All (λ (value : Read). (t : TxnId) → IsTrue (names value.cases t) → has_place places t value.item ≡ true) reads) is all

pub put_values-requires : goal.put_values-requires
put_values-requires c =
    let w = c.requires in
    record {
      within = new-within w.0 w.1 w.2 w.3 c.args.txn c.args.writes.now c.in_ok-after.after.items (c.in_ok-after.ensures.values w.0 w.1 w.2 w.3 w.4) c.args.values.now w.4.shown;
      placed = placed c.place_all.new.dependents.places c.in_ok-after.after.items c.deref.result.now c.deref.ensures.value c.in_ok-place_all.ensures.placed;
    }

pub returns-clause-values : goal.returns-clause-values
returns-clause-values c = λ catalog site records front is.
    put-shown catalog site records front c.args.txn c.args.writes.now c.in_ok-after.after.items (c.in_ok-after.ensures.values catalog site records front is)
    c.args.values.now c.put_values.new.values is.shown c.put_values.ensures.values c.put_values.auto.values

pub returns-clause-places : goal.returns-clause-places
returns-clause-places c = λ catalog site records front is had item txn home named.
    c.put_values.ensures.more txn item
    (put-placed catalog site records front c.args.txn c.args.writes.now c.in_ok-after.after.items (c.in_ok-after.ensures.values catalog site records front is)
    c.args.dependents.now.places c.place_all.new.dependents.places had c.in_ok-place_all.ensures.more
    (placed c.place_all.new.dependents.places c.in_ok-after.after.items c.deref.result.now c.deref.ensures.value c.in_ok-place_all.ensures.placed)
    item txn home named)

pub returns-clause-touched : goal.returns-clause-touched
returns-clause-touched c = λ touched. c.put_values.ensures.touched (λ item txn. c.in_ok-place_all.ensures.touched txn item ∙ touched item txn)
