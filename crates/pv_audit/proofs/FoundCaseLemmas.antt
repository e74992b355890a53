-- Cases that are found by their words.
use Rattle.std.proofs.Common.{◌≡◌, ℕ, ℤ, ◌+◌, ◌<◌, ◌≤◌, ◌^◌, Bor, List, [], ◌∷◌, length, map, sum, refl, sym, subst, ◌∙◌, arith, length-append}
use Rattle.std.specs.Prelude.{codes}
use Rattle.std.specs.List.{All}
use Rattle.std.proofs.lemmas.List.Sums.{sum_by-cons}
use Rattle.pv_audit.specs.Printed.{AreCases, IsCase}
use Rattle.pv_audit.specs.Words.{case_words, cases_words, when_words}
use Rattle.pv_audit.proofs.FixedLemmas.{same-length}
use Rattle.pv_audit.proofs.OneFormLemmas.{one-cases}
use Rattle.pv_audit.proofs.OneLineLemmas.{some-cases}
use Rattle.pv_base.specs.Polyvalue.{Case, IsPolyvalue}
use Rattle.pv_base.specs.declared.limits.TheConstants.{HELD_NAMES}
use Rattle.pv_base.specs.declared.literal.Literal.{Literal}
use Rattle.pv_protocol.specs.LineText.{literal_text}
use Rattle.pv_script.specs.LineFaults.{texts}

-- how many literals all cases have
abbrev pub count_literals : List (Case ℤ) → ℕ
count_literals cases = sum (map (λ case. length case.when) cases)

many-when : (when : List Literal) → length when ≤ length (when_words when)
many-when [] = omega arith
many-when (literal ∷ literals) = let more = same-count literals in omega (arith, more)
  where
    same-count : (literals : List Literal) → length (map literal_text literals) ≡ length literals
    same-count [] = refl
    same-count (literal ∷ literals) = let rest = same-count literals in omega (arith, rest)

-- Cases are no more than their words,
pub few-cases : (cases : List (Case ℤ)) → length cases ≤ length (cases_words cases)
few-cases [] = omega arith
few-cases (case ∷ []) = omega arith
few-cases (case ∷ next ∷ cases) =
    let rest = few-cases (next ∷ cases) in
    let all = length-append (case_words case) (codes ";" ∷ cases_words (next ∷ cases)) in
    omega (arith, rest, all)

-- and their literals aren't either.
pub few-literals : (cases : List (Case ℤ)) → count_literals cases ≤ length (cases_words cases)
few-literals [] = omega arith
few-literals (case ∷ []) = let few = many-when case.when in omega (arith, few)
few-literals (case ∷ next ∷ cases) =
    let sums : count_literals (case ∷ next ∷ cases) ≡ length case.when + count_literals (next ∷ cases) =
    sum_by-cons (λ (n : ℕ). n) (length case.when) (map (λ (c : Case ℤ). length c.when) (next ∷ cases)) in
    let few = many-when case.when in
    let rest = few-literals (next ∷ cases) in
    let all = length-append (case_words case) (codes ";" ∷ cases_words (next ∷ cases)) in
    omega (arith, sums, few, rest, all)

-- Where the cases that have the words aren't canonical, no canonical ones have them.
pub found-other : (words : List (List ℕ)) (found : List (Case ℤ)) → 0 < length found → All IsCase found → words ≡ cases_words found
    → (IsPolyvalue HELD_NAMES found → ⊥) → (cases : List (Case ℤ)) → words ≡ cases_words cases → AreCases cases → ⊥
found-other words [] some each is other cases same are = absurd (omega (arith, some))
found-other words (f ∷ found) some each is other [] same are = some-cases are.polyvalue.canonical refl
found-other words (f ∷ found) some each is other (c ∷ cases) same are =
    let one = one-cases f found c cases each are.each (sym is ∙ same) in
    other (subst (IsPolyvalue HELD_NAMES) (sym one) are.polyvalue)

-- Canonical cases are some.
pub some-canonical : (cases : List (Case ℤ)) → AreCases cases → 0 < length cases
some-canonical [] are = absurd (some-cases are.polyvalue.canonical refl)
some-canonical (case ∷ cases) are = omega arith

-- Cases and literals are no more than the words that they have.
pub few-by-words : (words : List (Bor (List ℕ))) (cases : List (Case ℤ)) → texts words ≡ cases_words cases → length words < 2 ^ 32
    → (length cases < 2 ^ 32) × (count_literals cases < 2 ^ 32)
few-by-words words cases are few =
    let same = same-length words (cases_words cases) are in
    let fewer = few-cases cases in
    let others = few-literals cases in
    (omega (arith, same, fewer, few), omega (arith, same, others, few))
