-- Sums under way: a part that is the same at every assignment, and one for each of them.
use Rattle.std.specs.Prelude.{ℕ, ℤ, pos, ◌+ℤ◌, neg_ℤ, ◌≤ℤ◌, List, [], ◌∷◌, map, All}
use Rattle.pv_query.specs.declared.adding.RunningSums.{RunningSums}

-- the numbers of both lists added, place by place
abbrev pub added : List ℤ → List ℤ → List ℤ
added [] others = []
added (number ∷ numbers) [] = []
added (number ∷ numbers) (other ∷ others) = (number +ℤ other) ∷ added numbers others

-- the whole sum at each assignment
abbrev pub totals : RunningSums → List ℤ
totals sums = map (λ open_sum. sums.sure +ℤ open_sum) sums.at_each.items

-- The number is this far from 0 at most.
pub record IsWithin (bound : ℕ) (number : ℤ) : Type 0 where
  pub low : neg_ℤ (pos bound) ≤ℤ number
  pub high : number ≤ℤ pos bound

-- Both parts are numbers so far from 0 at most.
pub record AreWithin (bound : ℕ) (sums : RunningSums) : Type 0 where
  pub sure : IsWithin bound sums.sure
  pub each : All (IsWithin bound) sums.at_each.items
