-- The transactions so far, and nothing is lost.
use Rattle.std.proofs.Common.{◌≡◌, ◌==◌, ◌||◌, ◌&&◌, ℕ, true, take}
use Rattle.std.specs.List.{list_any}
use Rattle.pv_base.specs.Assignment.{is_same_txn}
use Rattle.pv_base.specs.declared.txn.TxnId.{TxnId}
use Rattle.pv_store.specs.Kept.{has_place}
use Rattle.pv_store.proofs.values.touch_all.Given as goal

abbrev pub invariant-loop-txn : goal.invariant-loop-txn
invariant-loop-txn l = record {
  more : (other : TxnId) (there : ℕ) → has_place l.initial.dependents.places other there ≡ true → has_place l.dependents.places other there ≡ true;
  touched : (other : TxnId) (there : ℕ) → has_place l.dependents.touched other there ≡ ((there == l.item.0 && list_any (is_same_txn other) (take l.txn-index l.txns)) || has_place l.initial.dependents.touched other there);
}
