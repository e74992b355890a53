-- The item stands at the transactions so far, and nothing is lost.
use Rattle.std.proofs.Common.{◌≡◌, ℕ, true, take}
use Rattle.std.specs.Prelude.{All}
use Rattle.pv_base.specs.declared.txn.TxnId.{TxnId}
use Rattle.pv_store.specs.Kept.{has_place}
use Rattle.pv_store.proofs.places.place_at.Given as goal

abbrev pub invariant-loop-txn : goal.invariant-loop-txn
invariant-loop-txn l = record {
  more : (other : TxnId) (there : ℕ) → has_place l.initial.dependents.places other there ≡ true → has_place l.dependents.places other there ≡ true;
  placed : All (λ txn. has_place l.dependents.places txn l.item.0 ≡ true) (take l.txn-index l.txns);
  touched : (other : TxnId) (there : ℕ) → has_place l.dependents.touched other there ≡ has_place l.initial.dependents.touched other there;
}
