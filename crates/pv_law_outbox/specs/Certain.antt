-- Conditions that are certain to be 1, by the outcomes that are known.
use Rattle.std.specs.Prelude.{◌≡◌, ℤ, pos, Bool, false, not, ◌||◌, List, Option, Some}
use Rattle.std.specs.Bool.{beq}
use Rattle.std.specs.List.{list_all, list_any}
use Rattle.std.specs.Map.{lookup}
use Rattle.std.specs.Option.{option_map_or}
use Rattle.std.specs.Ordering.{int_eq}
use Rattle.pv_base.specs.Assignment.{is_same_txn, commits}
use Rattle.pv_base.specs.Polyvalue.{Case, value_at}
use Rattle.pv_base.specs.declared.literal.Literal.{Literal}
use Rattle.pv_base.specs.declared.txn.TxnId.{TxnId}

-- the outcome of the transaction, if it is among these
abbrev pub known : List (TxnId × Bool) → TxnId → Option Bool
known outcomes txn = lookup (is_same_txn txn) outcomes

-- In the assignment each known outcome is as it is known.
abbrev pub Agrees : List (TxnId × Bool) → List TxnId → Type 0
Agrees outcomes assignment = (txn : TxnId) (outcome : Bool) → known outcomes txn ≡ Some outcome → commits assignment txn ≡ outcome

-- The condition is 1 at every assignment that agrees with the outcomes.
abbrev pub IsCertain : List (TxnId × Bool) → List (Case ℤ) → Type 0
IsCertain outcomes when = (assignment : List TxnId) → Agrees outcomes assignment → value_at when assignment ≡ Some (pos 1)

-- The literal's transaction is known to have the other outcome.
abbrev pub is_excluded : List (TxnId × Bool) → Literal → Bool
is_excluded outcomes literal = option_map_or (λ outcome. not (beq outcome literal.commits)) (known outcomes literal.txn) false

-- Each case that may still be met has the value 1: so it is computed whether a canonical condition is certain.
abbrev pub is_certain : List (TxnId × Bool) → List (Case ℤ) → Bool
is_certain outcomes when = list_all (λ (case : Case ℤ). list_any (is_excluded outcomes) case.when || int_eq case.value (pos 1)) when
