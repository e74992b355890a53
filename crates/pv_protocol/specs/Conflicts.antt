-- When a transaction was refused because another one held an item that it wanted.
use Rattle.std.specs.Prelude.{◌≡◌, ℕ, ◌<◌, ◌||◌, List, ◌⊎◌, Contains, IsTrue}
use Rattle.pv_base.specs.Assignment.{precedes}
use Rattle.pv_base.specs.Want.{Want}
use Rattle.pv_base.specs.declared.txn.TxnId.{TxnId}
use Rattle.pv_format.specs.Message.{lock}
use Rattle.pv_protocol.specs.Places.{Place, world_before, Takes}
use Rattle.pv_protocol.specs.State.{Grant}
use Rattle.pv_protocol.specs.World.{World}
use Rattle.pv_protocol.specs.WorldStep.{Transition}

-- A grant of the holder is on an item that is wanted, and one of the two is exclusive.
pub record IsConflict (grants : List Grant) (wants : List Want) (item : ℕ) (holder : TxnId) : Type 0 where
  pub grant : Grant
  pub stands : Contains grants grant
  pub of : grant.txn ≡ holder
  pub want : Want
  pub wanted : Contains wants want
  pub held : Want
  pub has : Contains grant.wants held
  pub same : (want.item ≡ item) × (held.item ≡ item)
  pub exclusive : IsTrue (want.exclusive || held.exclusive)

-- The conflict over the least item, with its least holder.
pub record IsLeastConflict (grants : List Grant) (wants : List Want) (item : ℕ) (holder : TxnId) : Type 0 where
  pub is : IsConflict grants wants item holder
  pub least : (other : ℕ) (another : TxnId) → IsConflict grants wants other another
      → (item < other) ⊎ ((item ≡ other) × ((holder ≡ another) ⊎ IsTrue (precedes holder another)))

-- The site took the transaction's request for locks while the holder's grant stood in its way.
pub record WasDenied (first : World) (transitions : List Transition) (txn : TxnId) (n item : ℕ) (holder : TxnId) : Type 0 where
  pub place : Place transitions
  pub from : ℕ
  pub wants : List Want
  pub takes : Takes (world_before first place) place.transition n from (lock txn wants)
  pub least : IsLeastConflict takes.running.grants wants item holder
