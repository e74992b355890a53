-- Where the outputs are found that may be ready.
use Rattle.std.specs.Prelude.{◌≡◌, ℕ, ◌<◌, true, false, Bool, nat_eq, List, Some, None, slice_get, IsTrue}
use Rattle.std.specs.Global.{Vec}
use Rattle.std.specs.List.{Contains, list_any}
use Rattle.std.specs.Map.{lookup}
use Rattle.std.specs.Option.{option_map_or}
use Rattle.pv_base.specs.contracts.txn.TxnIdPartialEq.TheImpl as txn_eq
use Rattle.pv_base.specs.Polyvalue.{names}
use Rattle.pv_base.specs.declared.txn.TxnId.{TxnId}
use Rattle.pv_law_outbox.specs.Certain.{is_certain}
use Rattle.pv_law_outbox.specs.State.{Held, State, outcome_of, is_taken}

-- By transaction, the places of outputs that wait for it.
abbrev pub Waiting : Type 0
Waiting = List (TxnId × Vec ℕ)

-- The output at the place waits for the transaction.
abbrev pub waits_for : Waiting → TxnId → ℕ → Bool
waits_for waiting txn place = option_map_or (λ (places : Vec ℕ). list_any (nat_eq place) places.items) (lookup (txn_eq.ghosts.eq txn) waiting) false

-- The places of outputs that may be ready, in any order, and of those that wait. Places count from 0, in the order in which outputs were held.
pub record Queued : Type 0 where
  pub candidates : List ℕ
  pub waiting : Waiting

-- The output at the place waits for the transaction, unless its outcome is known.
abbrev pub WaitsIfUnknown : State → Queued → ℕ → TxnId → Type 0
WaitsIfUnknown state queue place txn = outcome_of state txn ≡ None → waits_for queue.waiting txn place ≡ true

-- Each place that may be ready or waits still does.
pub record HasAll (old new : Queued) : Type 0 where
  pub candidates : (place : ℕ) → Contains old.candidates place → Contains new.candidates place
  pub waiting : (txn : TxnId) (place : ℕ) → waits_for old.waiting txn place ≡ true → waits_for new.waiting txn place ≡ true

-- The output may be released, as is computed.
pub record MayGo (state : State) (entry : Held) : Type 0 where
  pub untaken : is_taken state entry.0 ≡ false
  pub certain : is_certain state.outcomes entry.1 ≡ true

-- The output at this place is found: it is a candidate where it may be released, and waits for each transaction that its condition names and
-- whose outcome isn't known.
pub record IsFound (state : State) (queue : Queued) (place : ℕ) (entry : Held) : Type 0 where
  pub ready : MayGo state entry → Contains queue.candidates place
  pub waits : (txn : TxnId) → IsTrue (names entry.1 txn) → WaitsIfUnknown state queue place txn

-- So each output below this place is found.
abbrev pub CoversBelow : ℕ → State → Queued → Type 0
CoversBelow end state queue = (place : ℕ) (entry : Held) → place < end → slice_get state.held place ≡ Some entry → IsFound state queue place entry

-- So all are.
abbrev pub Covers : State → Queued → Type 0
Covers state queue = (place : ℕ) (entry : Held) → slice_get state.held place ≡ Some entry → IsFound state queue place entry
