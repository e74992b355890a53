-- The values so far have their places, and nothing is lost.
use Rattle.std.proofs.Common.{◌≡◌, ℕ, true, take}
use Rattle.std.specs.Prelude.{All, IsTrue}
use Rattle.pv_base.specs.Polyvalue.{names}
use Rattle.pv_base.specs.declared.txn.TxnId.{TxnId}
use Rattle.pv_model.specs.Alternatives.{Read}
use Rattle.pv_store.specs.Kept.{has_place}
use Rattle.pv_store.proofs.places.place_all.Given as goal

abbrev pub invariant-loop-value : goal.invariant-loop-value
invariant-loop-value l = record {
  more : (other : TxnId) (there : ℕ) → has_place l.initial.dependents.places other there ≡ true → has_place l.dependents.places other there ≡ true;
  placed : All (λ (value : Read). (txn : TxnId) → IsTrue (names value.cases txn) → has_place l.dependents.places txn value.item ≡ true) (take l.value-index l.values);
  touched : (other : TxnId) (there : ℕ) → has_place l.dependents.touched other there ≡ has_place l.initial.dependents.touched other there;
}
