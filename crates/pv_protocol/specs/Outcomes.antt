-- The claim that a transaction has one outcome.
use Rattle.std.specs.Prelude.{◌≡◌, ℕ, Bool, true, false, Some, List, ◌∷◌, ◌++◌, All, IsTrue}
use Rattle.pv_base.specs.declared.txn.TxnId.{TxnId}
use Rattle.pv_protocol.specs.Committed.{is_committed, IsOpen}
use Rattle.pv_protocol.specs.Records.{known}
use Rattle.pv_protocol.specs.World.{World, site_at}

-- The site knows this outcome of the transaction.
abbrev pub Knows : World → ℕ → TxnId → Bool → Type 0
Knows world n txn commits = known (site_at world n).records txn ≡ Some commits

-- The transaction is neither committed nor open.
pub record IsOut (txn : TxnId) (world : World) : Type 0 where
  pub uncommitted : is_committed world txn ≡ false
  pub closed : IsOpen world txn → ⊥

-- No two sites know different outcomes. A transaction that is known to commit is committed, and one that is known not to
-- commit is neither committed nor open, in this world and in every later one.
pub record HasOneOutcome (world : World) (later : List World) : Type 0 where
  pub one : (n other : ℕ) (txn : TxnId) (commits reported : Bool) → Knows world n txn commits → Knows world other txn reported → commits ≡ reported
  pub commit : (n : ℕ) (txn : TxnId) → Knows world n txn true → IsTrue (is_committed world txn)
  pub abort : (n : ℕ) (txn : TxnId) → Knows world n txn false → All (IsOut txn) (world ∷ later)

-- That holds in each world of a run.
abbrev pub OutcomesAgree : List World → Type 0
OutcomesAgree worlds = (before later : List World) (world : World) → worlds ≡ before ++ world ∷ later → HasOneOutcome world later
