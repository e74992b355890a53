-- The order in which a decision tree has its leaves.
use Rattle.std.specs.Prelude.{ℤ, ◌^◌, Bool, true, false, not, ◌&&◌, nat_le, List, [], ◌∷◌, length, if◌then◌else◌}
use Rattle.std.specs.Bool.{beq}
use Rattle.std.specs.List.{list_all}
use Rattle.pv_base.specs.Assignment.{is_same_txn, precedes}
use Rattle.pv_base.specs.Polyvalue.{Case}
use Rattle.pv_base.specs.declared.limits.TheConstants.{HELD_NAMES}
use Rattle.pv_base.specs.declared.literal.Literal.{Literal}

-- The conditions are the same up to a transaction that doesn't commit in the first one, and commits in the second.
abbrev pub stands_before : List Literal → List Literal → Bool
stands_before [] others = false
stands_before (first ∷ literals) [] = false
stands_before (first ∷ literals) (second ∷ others) =
    if is_same_txn first.txn second.txn && beq first.commits second.commits then stands_before literals others
    else (is_same_txn first.txn second.txn && not first.commits)

-- Each condition stands before the next one.
abbrev pub are_in_order : List (Case ℤ) → Bool
are_in_order [] = true
are_in_order (case ∷ []) = true
are_in_order (case ∷ next ∷ cases) = stands_before case.when next.when && are_in_order (next ∷ cases)

-- The transactions of the literals ascend.
abbrev pub ascends : List Literal → Bool
ascends [] = true
ascends (literal ∷ []) = true
ascends (literal ∷ next ∷ literals) = precedes literal.txn next.txn && ascends (next ∷ literals)

-- Cases look like the leaves of a decision tree: they are few, with few literals each, whose transactions ascend, and they are in order.
abbrev pub looks_canonical : List (Case ℤ) → Bool
looks_canonical cases =
    nat_le (length cases) (2 ^ HELD_NAMES) && list_all (λ case. nat_le (length case.when) HELD_NAMES) cases && list_all (λ case. ascends case.when) cases && are_in_order cases
