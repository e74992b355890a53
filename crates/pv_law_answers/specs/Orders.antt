-- The claims that the committed transactions fit a world, and that they stand in its order.
use Rattle.std.specs.Prelude.{◌≡◌, List, ◌∷◌, ◌++◌, filter, Contains, IsTrue}
use Rattle.pv_base.specs.declared.txn.TxnId.{TxnId}
use Rattle.pv_protocol.specs.Committed.{Fits, is_committed}
use Rattle.pv_protocol.specs.Report.{txns_in_order}
use Rattle.pv_protocol.specs.State.{Placed}
use Rattle.pv_protocol.specs.World.{World}

-- the committed transactions, in the order of their lock points
abbrev pub committed_in : World → List TxnId
committed_in world = txns_in_order (filter (λ placed. is_committed world placed.txn) world.order)

-- That the committed transactions commit, and no other, fits the world; so there is always an assignment that fits.
abbrev pub CommittedFit : World → Type 0
CommittedFit world = Fits world (committed_in world)

-- The transaction stands in the order, and once.
pub record StandsOnce (world : World) (txn : TxnId) : Type 0 where
  pub earlier : List Placed
  pub placed : Placed
  pub later : List Placed
  pub split : world.order ≡ earlier ++ placed ∷ later
  pub own : placed.txn ≡ txn
  pub once : (other : Placed) → Contains (earlier ++ later) other → other.txn ≡ txn → ⊥

-- Each committed transaction stands in the order, and once.
abbrev pub CommittedStandOnce : World → Type 0
CommittedStandOnce world = (txn : TxnId) → IsTrue (is_committed world txn) → StandsOnce world txn
