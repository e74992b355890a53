-- What is left, put over what was put so far, is all of it put over what there was, and each has its places.
use Rattle.std.proofs.Common.{◌≡◌, ℕ, true}
use Rattle.std.specs.Prelude.{All, IsTrue}
use Rattle.pv_base.specs.Polyvalue.{names}
use Rattle.pv_base.specs.declared.txn.TxnId.{TxnId}
use Rattle.pv_model.specs.Alternatives.{Read}
use Rattle.pv_store.specs.Held.{AreTouched}
use Rattle.pv_store.specs.Kept.{has_place}
use Rattle.pv_store.proofs.HeldLemmas.{Puts}
use Rattle.pv_store.proofs.values.put_values.Given as goal

abbrev pub invariant-loop-value : goal.invariant-loop-value
invariant-loop-value l = record {
  puts : Puts l.fn.new.items l.fn.values l.value-iterator.rest.items l.values;
  placed : All (λ (read : Read). (txn : TxnId) → IsTrue (names read.cases txn) → has_place l.fn.dependents.places txn read.item ≡ true) l.value-iterator.rest.items;
  more : (other : TxnId) (there : ℕ) → has_place l.fn.dependents.places other there ≡ true → has_place l.dependents.places other there ≡ true;
  touched : AreTouched l.fn.values l.fn.dependents.touched → AreTouched l.values l.dependents.touched;
}
