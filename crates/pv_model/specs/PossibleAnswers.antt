-- What is answered where the answer depends on outcomes that aren't known: every answer that some outcomes give.
use Rattle.std.specs.Prelude.{ℤ, pos, ◌+ℤ◌, Bool, not, List, [], ◌∷◌, map, Option, Some, None}
use Rattle.std.specs.List.{filter}
use Rattle.std.specs.Ordering.{int_eq}
use Rattle.pv_base.specs.declared.txn.TxnId.{TxnId}
use Rattle.pv_base.specs.Assignment.{assignments}
use Rattle.pv_base.specs.Polyvalue.{Case}
use Rattle.pv_model.specs.Alternatives.{number_at}

-- the values without repeats, each at its first place
abbrev pub without_repeats : {V : Type 0} → (V → V → Bool) → List V → List V
without_repeats same [] = []
without_repeats same (value ∷ values) = value ∷ filter (λ other. not (same value other)) (without_repeats same values)

-- the possible answers: the values of the cases
abbrev pub possible : {V : Type 0} → (V → V → Bool) → List (Case V) → List V
possible same cases = without_repeats same (map (λ case. case.value) cases)

-- the only one of a list, if it has one
abbrev pub only : {V : Type 0} → List V → Option V
only [] = None
only (value ∷ []) = Some value
only (value ∷ other ∷ values) = None

-- The answer is certain where it is the only possible one.
abbrev pub certain : {V : Type 0} → (V → V → Bool) → List (Case V) → Option V
certain same cases = only (possible same cases)

-- the sum of the values at the assignment
abbrev pub sum_at : List (List (Case ℤ)) → List TxnId → ℤ
sum_at [] assignment = pos 0
sum_at (cases ∷ values) assignment = number_at cases assignment +ℤ sum_at values assignment

-- the sums at every assignment of the transactions, without repeats
abbrev pub sums : List (List (Case ℤ)) → List TxnId → List ℤ
sums values txns = without_repeats int_eq (map (sum_at values) (assignments txns))
