-- Cases on a way down a decision tree: with the literals of the way in front, and without them.
use Rattle.std.specs.Prelude.{ℕ, Bool, false, List, [], ◌∷◌, ◌++◌, map, drop}
use Rattle.pv_base.specs.declared.literal.Literal.{Literal}
use Rattle.pv_base.specs.Polyvalue.{Case}

-- Whether the first literal asks for a commit.
abbrev pub asks_commit : List Literal → Bool
asks_commit [] = false
asks_commit (literal ∷ literals) = literal.commits

module _ {V : Type 0} where
  -- the cases, each under all of these literals, which stand in front
  abbrev pub under_all : List Literal → List (Case V) → List (Case V)
  under_all way cases = map (λ case. record { when = way ++ case.when; value = case.value }) cases

  -- the cases, each without so many of the first literals of its condition
  abbrev pub beyond : ℕ → List (Case V) → List (Case V)
  beyond depth cases = map (λ case. record { when = drop depth case.when; value = case.value }) cases
