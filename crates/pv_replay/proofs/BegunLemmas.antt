-- The tests that are written before a leaf are those of the literals behind the last one that asks for a commit.
use Rattle.std.specs.Prelude.{not}
use Rattle.std.proofs.Common.{◌≡◌, ◌∙◌, ◌&&◌, ℕ, Bool, true, false, if◌then◌else◌, List, [], ◌∷◌, ◌++◌, refl, sym, ap}
use Rattle.std.specs.List.{flat_map, list_all}
use Rattle.std.proofs.lemmas.Bool.{false≢true}
use Rattle.pv_base.specs.declared.literal.Literal.{Literal}
use Rattle.pv_replay.specs.Nodes.{begun, test_bytes, tests_bytes}

-- None of the literals asks for a commit.
abbrev aborts : List Literal → Bool
aborts literals = list_all (λ (one : Literal). not one.commits) literals

-- the bytes of the tests of these literals
abbrev pub all_bytes : List Literal → List ℕ
all_bytes literals = flat_map (λ (literal : Literal). test_bytes literal.txn) literals

behind-and : (first other : Bool) → (first && other) ≡ true → other ≡ true
behind-and true other both = both
behind-and false other both = absurd (false≢true both)

begun-if : (literal : Literal) (literals : List Literal) (all : Bool) → aborts (literal ∷ literals) ≡ all
    → begun (literal ∷ literals) ≡ (if all then literal ∷ literals else begun literals)
begun-if literal literals all is = ap (λ (all : Bool). if all then literal ∷ literals else begun literals) is

tests-if : (literal : Literal) (literals : List Literal) (all : Bool) → aborts (literal ∷ literals) ≡ all
    → tests_bytes (literal ∷ literals) ≡ (if all then test_bytes literal.txn else []) ++ tests_bytes literals
tests-if literal literals all is = ap (λ (all : Bool). (if all then test_bytes literal.txn else []) ++ tests_bytes literals) is

all-begun : (literals : List Literal) → aborts literals ≡ true → begun literals ≡ literals
all-begun [] all = refl
all-begun (literal ∷ literals) all = begun-if literal literals true all

all-tests : (literals : List Literal) → aborts literals ≡ true → tests_bytes literals ≡ all_bytes literals
all-tests [] all = refl
all-tests (literal ∷ literals) all =
    tests-if literal literals true all
    ∙ ap (λ (rest : List ℕ). test_bytes literal.txn ++ rest) (all-tests literals (behind-and (not literal.commits) (aborts literals) all))

begun-by : (literal : Literal) (literals : List Literal) (all : Bool) → aborts (literal ∷ literals) ≡ all → tests_bytes literals ≡ all_bytes (begun literals)
    → tests_bytes (literal ∷ literals) ≡ all_bytes (begun (literal ∷ literals))
begun-by literal literals true is rest = all-tests (literal ∷ literals) is ∙ ap all_bytes (sym (begun-if literal literals true is))
begun-by literal literals false is rest = tests-if literal literals false is ∙ rest ∙ ap all_bytes (sym (begun-if literal literals false is))

pub tests-begun : (literals : List Literal) → tests_bytes literals ≡ all_bytes (begun literals)
tests-begun [] = refl
tests-begun (literal ∷ literals) = begun-by literal literals (aborts (literal ∷ literals)) refl (tests-begun literals)

-- What is found among the literals that were gone over, and those that are left.
abbrev pub found : List Literal → List Literal → List Literal
found behind rest = if aborts rest then behind else begun rest

first-by : (literals : List Literal) (all : Bool) → aborts literals ≡ all → begun literals ≡ (if all then literals else begun literals)
first-by literals true is = all-begun literals is
first-by literals false is = refl

pub found-first : (literals : List Literal) → begun literals ≡ found literals literals
found-first literals = first-by literals (aborts literals) refl

step-by : (literal : Literal) (later behind : List Literal) (commits all : Bool) → begun later ≡ (if all then later else begun later)
    → (if (not commits && all) then behind else (if (not commits && all) then literal ∷ later else begun later))
    ≡ (if all then (if commits then later else behind) else begun later)
step-by literal later behind true all first = first
step-by literal later behind false true first = refl
step-by literal later behind false false first = refl

pub found-step : (literal : Literal) (later behind : List Literal) → found behind (literal ∷ later) ≡ found (if literal.commits then later else behind) later
found-step literal later behind = step-by literal later behind literal.commits (aborts later) (found-first later)
