-- The records of an outbox, and what they say.
use Rattle.std.specs.Prelude.{ℕ, ℤ, Bool, nat_eq, List, [], ◌∷◌, ◌++◌, Option, if◌then◌else◌}
use Rattle.std.specs.List.{list_any}
use Rattle.std.specs.Map.{lookup}
use Rattle.std.specs.Option.{is_some}
use Rattle.pv_base.specs.Assignment.{is_same_txn}
use Rattle.pv_base.specs.Polyvalue.{Case}
use Rattle.pv_base.specs.declared.txn.TxnId.{TxnId}

-- What an outbox keeps for good.
pub data Record : Type 0 where
  -- the output is held back until its condition is certain to be 1
  held : (output : ℕ) (when : List (Case ℤ)) → Record
  -- the transaction was learnt to commit or not to
  learnt : (txn : TxnId) (commits : Bool) → Record
  -- the output is released
  taken : (output : ℕ) → Record

-- an output with its condition
abbrev pub Held : Type 0
Held = ℕ × List (Case ℤ)

-- What records say: the outputs that were held, in their order, each with its condition; the outcomes that were learnt; and the outputs
-- that were released.
pub record State : Type 0 where
  pub held : List Held
  pub outcomes : List (TxnId × Bool)
  pub taken : List ℕ

-- No record says anything.
abbrev pub nothing : State
nothing = record { held = []; outcomes = []; taken = [] }

-- the condition under which the output is held, if it is
abbrev pub condition_of : State → ℕ → Option (List (Case ℤ))
condition_of state output = lookup (nat_eq output) state.held

-- There is a record by which the output is held.
abbrev pub is_held : State → ℕ → Bool
is_held state output = is_some (condition_of state output)

-- the outcome of the transaction, if it was learnt
abbrev pub outcome_of : State → TxnId → Option Bool
outcome_of state txn = lookup (is_same_txn txn) state.outcomes

-- The output is released.
abbrev pub is_taken : State → ℕ → Bool
is_taken state output = list_any (nat_eq output) state.taken

-- What is said with one record more. Of several that hold one output the first counts, and so of several outcomes of one transaction.
abbrev pub after : State → Record → State
after state (held output when) = if is_held state output then state else record state { held = state.held ++ (output, when) ∷ [] }
after state (learnt txn commits) = if is_some (outcome_of state txn) then state else record state { outcomes = state.outcomes ++ (txn, commits) ∷ [] }
after state (taken output) = if is_taken state output then state else record state { taken = state.taken ++ output ∷ [] }

-- What is said with these records more, the oldest first.
abbrev pub after_all : State → List Record → State
after_all state [] = state
after_all state (entry ∷ entries) = after_all (after state entry) entries

-- What the records say.
abbrev pub state_of : List Record → State
state_of records = after_all nothing records
