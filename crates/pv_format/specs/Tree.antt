-- Decision trees of numbers, and the polyvalues that they are.
use Rattle.std.specs.Prelude.{ℤ, Bool, true, false, ◌==◌, List, [], ◌∷◌, ◌++◌, length}
use Rattle.pv_base.specs.declared.txn.TxnId.{TxnId}
use Rattle.pv_base.specs.Polyvalue.{Case, under}

-- A value, or a test of a transaction, with the tree where it aborts and that where it commits.
pub data Tree : Type 0 where
  leaf : (value : ℤ) → Tree
  test : (txn : TxnId) (aborted committed : Tree) → Tree

-- the cases that a tree is: its leaves, each under the outcomes on the way to it
abbrev pub cases_of : Tree → List (Case ℤ)
cases_of (leaf value) = record { when = []; value = value } ∷ []
cases_of (test txn aborted committed) = under txn false (cases_of aborted) ++ under txn true (cases_of committed)

-- A polyvalue is sure where it has one case, which is the same whatever commits.
abbrev pub is_sure : List (Case ℤ) → Bool
is_sure cases = length cases == 1
