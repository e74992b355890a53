-- Votes and outcomes: what is committed, what is dead, and what may still commit.
use Rattle.std.specs.Prelude.{◌≡◌, ℕ, Bool, true, false, ◌&&◌, List, Contains, ◌⊎◌}
use Rattle.std.specs.List.{list_any}
use Rattle.pv_base.specs.Assignment.{is_same_txn, commits}
use Rattle.pv_base.specs.Want.{Want}
use Rattle.pv_base.specs.declared.txn.TxnId.{TxnId}
use Rattle.pv_format.specs.Message.{outcome_reported}
use Rattle.pv_format.specs.Record.{outcome_known}
use Rattle.pv_law_acts.specs.Guards.{HasOutcome}
use Rattle.pv_law_acts.specs.Seen.{records_at, HoldsAgeless, WorksAgeless, Sent}
use Rattle.pv_protocol.specs.Committed.{home_of, is_committed}
use Rattle.pv_protocol.specs.Records.{is_prepared}
use Rattle.pv_protocol.specs.State.{Entry, TakenGrant, Placed}
use Rattle.pv_protocol.specs.World.{World}

-- The transaction is in the order, and each participant is prepared.
pub record IsPreparedEverywhere (world : World) (txn : TxnId) : Type 0 where
  pub placed : Placed
  pub in_order : Contains world.order placed
  pub own : placed.txn ≡ txn
  pub prepared : (taken : TakenGrant) → Contains placed.grants taken → is_prepared (records_at world taken.site) txn ≡ true

-- An outcome that is reported comes from the transaction's site, and is the transaction's.
pub record IsReported (world : World) (from : ℕ) (txn : TxnId) (commits : Bool) : Type 0 where
  pub home : from ≡ home_of txn
  pub outcome : HasOutcome world txn commits

-- What is worked on isn't committed, what is committed is prepared everywhere, and what is reported and recorded of outcomes is so: that
-- a transaction commits is said of a committed one alone, and that it doesn't of a dead one.
pub record AreDecided (world : World) : Type 0 where
  pub working : (n : ℕ) (txn : TxnId) (entry : Entry) → WorksAgeless world n txn entry → is_committed world txn ≡ false
  pub committed : (txn : TxnId) → is_committed world txn ≡ true → IsPreparedEverywhere world txn
  pub reported : (from to : ℕ) (txn : TxnId) (commits : Bool) → Sent world from to (outcome_reported txn commits) → IsReported world from txn commits
  pub known : (n : ℕ) (txn : TxnId) (commits : Bool) → Contains (records_at world n) (outcome_known txn commits) → HasOutcome world txn commits

-- The participant is prepared, or the very grant stands that was taken from it.
pub data IsBoundBy (world : World) (txn : TxnId) (taken : TakenGrant) : Type 0 where
  is_promised : is_prepared (records_at world taken.site) txn ≡ true → IsBoundBy world txn taken
  is_held : (wants : List Want) → HoldsAgeless world taken.site (record { txn = txn; id = taken.grant; wants = wants; age = 0 }) → IsBoundBy world txn taken

-- The transaction may still commit: it is in the order and not committed, its site works on it, and each participant is bound by it.
pub record MayCommitYet (world : World) (txn : TxnId) : Type 0 where
  pub placed : Placed
  pub in_order : Contains world.order placed
  pub own : placed.txn ≡ txn
  pub uncommitted : is_committed world txn ≡ false
  pub entry : Entry
  pub works : WorksAgeless world (home_of txn) txn entry
  pub bound : (taken : TakenGrant) → Contains placed.grants taken → IsBoundBy world txn taken

-- The transaction is committed, or may still commit.
abbrev pub IsCommittedOrOpen : World → TxnId → Type 0
IsCommittedOrOpen world txn = (is_committed world txn ≡ true) ⊎ MayCommitYet world txn

-- The transaction is in the order.
abbrev pub is_placed : World → TxnId → Bool
is_placed world txn = list_any (λ placed. is_same_txn placed.txn txn) world.order

-- The one assignment is the other, cut to the transactions of the world's order.
abbrev pub IsCutTo : World → List TxnId → List TxnId → Type 0
IsCutTo world whole part = (txn : TxnId) → commits part txn ≡ (commits whole txn && is_placed world txn)
