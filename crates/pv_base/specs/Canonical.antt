-- The canonical cases of a function of the outcomes of some transactions: its decision tree, reduced (Bryant, 1986).
use Rattle.std.specs.Prelude.{◌≡◌, Bool, true, false, ◌&&◌, List, [], ◌∷◌, ◌++◌, if◌then◌else◌}
use Rattle.std.specs.Bool.{beq}
use Rattle.std.specs.Cmp.Lexicographic.{pointwise}
use Rattle.std.specs.List.{Contains}
use Rattle.pv_base.specs.declared.literal.Literal.{Literal}
use Rattle.pv_base.specs.declared.txn.TxnId.{TxnId}
use Rattle.pv_base.specs.Assignment.{is_same_txn, commits, with_outcome}
use Rattle.pv_base.specs.Polyvalue.{Case, under}

-- The test holds of two values exactly where they are one value.
pub record IsExact {V : Type 0} (same : V → V → Bool) : Type 0 where
  pub exact : (x y : V) → same x y ≡ true → x ≡ y
  pub itself : (x : V) → same x x ≡ true

-- Both literals ask for the same outcome of the same transaction.
abbrev pub is_same_literal : Literal → Literal → Bool
is_same_literal literal other = is_same_txn literal.txn other.txn && beq literal.commits other.commits

module _ {V : Type 0} where
  -- Both cases have the same condition and the same value.
  abbrev pub is_same_case : (V → V → Bool) → Case V → Case V → Bool
  is_same_case same case other = pointwise is_same_literal case.when other.when && same case.value other.value

  -- Both lists have the same cases in the same order.
  abbrev pub are_same_cases : (V → V → Bool) → List (Case V) → List (Case V) → Bool
  are_same_cases same cases others = pointwise (is_same_case same) cases others

  -- the test of the transaction between both sides, or one of them where they are the same
  abbrev pub decision : (V → V → Bool) → TxnId → List (Case V) → List (Case V) → List (Case V)
  decision same txn aborted committed =
      if are_same_cases same aborted committed then aborted else under txn false aborted ++ under txn true committed

  -- the canonical cases of the function, whose transactions are listed and ascend
  unfoldable pub canonical_cases : (V → V → Bool) → List TxnId → (List TxnId → V) → List (Case V)
  canonical_cases same [] f = record { when = []; value = f [] } ∷ []
  canonical_cases same (txn ∷ txns) f =
      decision same txn
      (canonical_cases same txns (λ assignment. f (with_outcome txn false assignment)))
      (canonical_cases same txns (λ assignment. f (with_outcome txn true assignment)))

  -- The function's value is the same at assignments that have the same outcomes of these transactions.
  abbrev pub IsFunctionOf : List TxnId → (List TxnId → V) → Type 0
  IsFunctionOf txns f =
      (assignment other : List TxnId) → ((txn : TxnId) → Contains txns txn → commits assignment txn ≡ commits other txn)
      → f assignment ≡ f other
