-- A canonical condition is certain exactly where each case that may still be met has the value 1.
use Rattle.std.proofs.Common.{◌≡◌, ℤ, pos, Bool, true, false, cond, Option, Some, None, List, [], ◌∷◌, ◌++◌, refl, sym, ap, ap₂, ◌∙◌}
use Rattle.std.specs.Prelude.{not, ◌&&◌, ◌||◌, if◌then◌else◌}
use Rattle.std.specs.Bool.{beq}
use Rattle.std.specs.List.{list_any}
use Rattle.std.specs.Option.{option_map_or}
use Rattle.std.specs.Ordering.{int_eq}
use Rattle.std.proofs.lemmas.Bool.{true≢false}
use Rattle.std.proofs.lemmas.Bool.Decides.{Decides-int_eq}
use Rattle.std.proofs.lemmas.List.Folds.{list_all-append}
use Rattle.std.proofs.lemmas.Option.{none-some}
use Rattle.pv_base.specs.Assignment.{is_same_txn, commits, with_outcome}
use Rattle.pv_base.specs.Polyvalue.{Case, value_at, names, under, IsCanonical}
use Rattle.pv_base.specs.Polyvalue.IsCanonical.{sure, tested}
use Rattle.pv_base.specs.declared.literal.Literal.{Literal}
use Rattle.pv_base.specs.declared.txn.TxnId.{TxnId}
use Rattle.pv_base.proofs.AssignmentLemmas.{same-eq, same-sym, commits-with, commits-with-same}
use Rattle.pv_base.proofs.Basics.{Some_inj, and-left, and-right}
use Rattle.pv_law_polyvalues.proofs.PolyvalueLemmas.{behind-unnamed, unnamed-free, value_at-front, value_at-back}
use Rattle.pv_law_outbox.specs.Certain.{known, Agrees, IsCertain, is_excluded, is_certain}

not-same : (b : Bool) → not (beq b b) ≡ false
not-same true = refl
not-same false = refl

same-from : (b c : Bool) → not (beq b c) ≡ false → b ≡ c
same-from true true is = refl
same-from true false is = absurd (true≢false is)
same-from false true is = absurd (true≢false is)
same-from false false is = refl

and-both : (a b : Bool) → a ≡ true → b ≡ true → (a && b) ≡ true
and-both a b first second = ap₂ (λ (x y : Bool). x && y) first second

module _ (outcomes : List (TxnId × Bool)) where
  abbrev asks : TxnId → Bool → Literal
  asks txn outcome = record { txn = txn; commits = outcome }

  -- Cases under a literal that is excluded are certain, and those under another one are as they are.

  under-excluded : (txn : TxnId) (outcome : Bool) (cases : List (Case ℤ)) → is_excluded outcomes (asks txn outcome) ≡ true → is_certain outcomes (under txn outcome cases) ≡ true
  under-excluded txn outcome [] excluded = refl
  under-excluded txn outcome (case ∷ cases) excluded =
      ap₂ (λ (first rest : Bool). ((first || list_any (is_excluded outcomes) case.when) || int_eq case.value (pos 1)) && rest)
      excluded (under-excluded txn outcome cases excluded)

  under-free : (txn : TxnId) (outcome : Bool) (cases : List (Case ℤ)) → is_excluded outcomes (asks txn outcome) ≡ false
      → is_certain outcomes (under txn outcome cases) ≡ is_certain outcomes cases
  under-free txn outcome [] free = refl
  under-free txn outcome (case ∷ cases) free =
      ap₂ (λ (first rest : Bool). ((first || list_any (is_excluded outcomes) case.when) || int_eq case.value (pos 1)) && rest)
      free (under-free txn outcome cases free)

  tested-both : (txn : TxnId) (front back : List (Case ℤ)) → is_certain outcomes (under txn false front ++ under txn true back)
      ≡ (is_certain outcomes (under txn false front) && is_certain outcomes (under txn true back))
  tested-both txn front back =
      list_all-append (λ (case : Case ℤ). list_any (is_excluded outcomes) case.when || int_eq case.value (pos 1)) (under txn false front) (under txn true back)

  -- An assignment that agrees meets no literal that is excluded.

  free-by : (found : Option Bool) (outcome : Bool) → ((b : Bool) → found ≡ Some b → b ≡ outcome) → option_map_or (λ b. not (beq b outcome)) found false ≡ false
  free-by None outcome same = refl
  free-by (Some b) outcome same = ap (λ (x : Bool). not (beq x outcome)) (same b refl) ∙ not-same outcome

  free-met : (assignment : List TxnId) → Agrees outcomes assignment → (txn : TxnId) (outcome : Bool) → commits assignment txn ≡ outcome
      → is_excluded outcomes (asks txn outcome) ≡ false
  free-met assignment agrees txn outcome is = free-by (known outcomes txn) outcome (λ b found. sym (agrees txn b found) ∙ is)

  -- What is computed to be certain is.

  value-one : (v : ℤ) → ((false || int_eq v (pos 1)) && true) ≡ true → v ≡ pos 1
  value-one v is = (Decides-int_eq v (pos 1)).0 (and-left (int_eq v (pos 1)) true is)

  side-certain : (txn : TxnId) (outcome : Bool) (side : List (Case ℤ)) (assignment : List TxnId) → Agrees outcomes assignment → commits assignment txn ≡ outcome
      → is_certain outcomes (under txn outcome side) ≡ true → is_certain outcomes side ≡ true
  side-certain txn outcome side assignment agrees is certain =
      sym (under-free txn outcome side (free-met assignment agrees txn outcome is)) ∙ certain

  certain-at : (txn : TxnId) (front back : List (Case ℤ)) (assignment : List TxnId) (outcome : Bool) → commits assignment txn ≡ outcome → Agrees outcomes assignment
      → is_certain outcomes (under txn false front ++ under txn true back) ≡ true
      → (is_certain outcomes front ≡ true → value_at front assignment ≡ Some (pos 1))
      → (is_certain outcomes back ≡ true → value_at back assignment ≡ Some (pos 1))
      → value_at (under txn false front ++ under txn true back) assignment ≡ Some (pos 1)
  certain-at txn front back assignment true is agrees certain first second =
      value_at-back txn front back assignment is
      ∙ second (side-certain txn true back assignment agrees is (and-right _ _ (sym (tested-both txn front back) ∙ certain)))
  certain-at txn front back assignment false is agrees certain first second =
      value_at-front txn front back assignment is
      ∙ first (side-certain txn false front assignment agrees is (and-left _ _ (sym (tested-both txn front back) ∙ certain)))

  pub certain-from : (cases : List (Case ℤ)) → IsCanonical cases → is_certain outcomes cases ≡ true → IsCertain outcomes cases
  certain-from cases (sure v) certain assignment agrees = ap Some (value-one v certain)
  certain-from cases (tested txn front back left right behind later differ) certain assignment agrees =
      certain-at txn front back assignment (commits assignment txn) refl agrees certain
      (λ is. certain-from front left is assignment agrees) (λ is. certain-from back right is assignment agrees)

  -- What is certain is computed to be.

  agrees-by : (txn : TxnId) (outcome : Bool) (assignment : List TxnId) (other : TxnId) (b : Bool) → (is_same_txn txn other ≡ true → b ≡ outcome) → commits assignment other ≡ b
      → (test : Bool) → is_same_txn txn other ≡ test → (if test then outcome else commits assignment other) ≡ b
  agrees-by txn outcome assignment other b same is true here = sym (same here)
  agrees-by txn outcome assignment other b same is false apart = is

  found-free : (found : Option Bool) (outcome b : Bool) → option_map_or (λ x. not (beq x outcome)) found false ≡ false → found ≡ Some b → b ≡ outcome
  found-free None outcome b free is = absurd (none-some b is)
  found-free (Some x) outcome b free is = sym (Some_inj is) ∙ same-from x outcome free

  -- With an outcome that isn't excluded an assignment still agrees.
  agrees-with : (txn : TxnId) (outcome : Bool) (assignment : List TxnId) → is_excluded outcomes (asks txn outcome) ≡ false → Agrees outcomes assignment
      → Agrees outcomes (with_outcome txn outcome assignment)
  agrees-with txn outcome assignment free agrees other b found =
      commits-with txn outcome assignment other
      ∙ agrees-by txn outcome assignment other b
      (λ here. found-free (known outcomes txn) outcome b free (ap (known outcomes) (same-eq {t = txn} {u = other} here) ∙ found))
      (agrees other b found) (is_same_txn txn other) refl

  certain-side : (txn : TxnId) (outcome : Bool) (cases side : List (Case ℤ)) → names side txn ≡ false
      → ((assignment : List TxnId) → commits assignment txn ≡ outcome → value_at cases assignment ≡ value_at side assignment)
      → is_excluded outcomes (asks txn outcome) ≡ false → IsCertain outcomes cases → IsCertain outcomes side
  certain-side txn outcome cases side unnamed same free certain assignment agrees =
      sym (unnamed-free txn side unnamed outcome assignment)
      ∙ sym (same (with_outcome txn outcome assignment) (commits-with-same txn outcome assignment))
      ∙ certain (with_outcome txn outcome assignment) (agrees-with txn outcome assignment free agrees)

  under-by : (txn : TxnId) (outcome : Bool) (side : List (Case ℤ)) (b : Bool) → is_excluded outcomes (asks txn outcome) ≡ b
      → (b ≡ false → is_certain outcomes side ≡ true) → is_certain outcomes (under txn outcome side) ≡ true
  under-by txn outcome side true excluded certain = under-excluded txn outcome side excluded
  under-by txn outcome side false free certain = under-free txn outcome side free ∙ certain refl

-- There is an assignment that agrees.

abbrev as_known : List (TxnId × Bool) → List TxnId
as_known [] = []
as_known (pair ∷ pairs) = with_outcome pair.0 pair.1 (as_known pairs)

known-by : (test : Bool) (outcome b : Bool) (rest : Option Bool) (other : Bool) → (rest ≡ Some b → other ≡ b) → cond test (Some outcome) rest ≡ Some b
    → (if test then outcome else other) ≡ b
known-by true outcome b rest other later is = Some_inj is
known-by false outcome b rest other later is = later is

as_known-agrees : (outcomes : List (TxnId × Bool)) → Agrees outcomes (as_known outcomes)
as_known-agrees [] txn b is = absurd (none-some b is)
as_known-agrees (pair ∷ pairs) txn b is =
    commits-with pair.0 pair.1 (as_known pairs) txn
    ∙ ap (λ (test : Bool). if test then pair.1 else commits (as_known pairs) txn) (same-sym pair.0 txn)
    ∙ known-by (is_same_txn txn pair.0) pair.1 b (known pairs txn) (commits (as_known pairs) txn) (as_known-agrees pairs txn b) is

one-value : (v : ℤ) → Some v ≡ Some (pos 1) → ((false || int_eq v (pos 1)) && true) ≡ true
one-value v is = and-both (int_eq v (pos 1)) true ((Decides-int_eq v (pos 1)).1 (Some_inj is)) refl

module _ (outcomes : List (TxnId × Bool)) where
  pub certain-computed : (cases : List (Case ℤ)) → IsCanonical cases → IsCertain outcomes cases → is_certain outcomes cases ≡ true
  certain-computed cases (sure v) certain = one-value v (certain (as_known outcomes) (as_known-agrees outcomes))
  certain-computed cases (tested txn front back left right behind later differ) certain =
      tested-both outcomes txn front back
      ∙ and-both _ _
      (under-by outcomes txn false front (is_excluded outcomes (record { txn = txn; commits = false })) refl
      (λ free. certain-computed front left (certain-side outcomes txn false (under txn false front ++ under txn true back) front (behind-unnamed txn front behind)
      (λ assignment is. value_at-front txn front back assignment is) free certain)))
      (under-by outcomes txn true back (is_excluded outcomes (record { txn = txn; commits = true })) refl
      (λ free. certain-computed back right (certain-side outcomes txn true (under txn false front ++ under txn true back) back (behind-unnamed txn back later)
      (λ assignment is. value_at-back txn front back assignment is) free certain)))
