-- The cases that a polyvalue holds: one alone, or those of its root.
use Rattle.std.proofs.Common.{◌≡◌, ℕ, ◌+◌, ◌-◌, ◌<◌, List, [], ◌∷◌, length, get_or, refl, sym, ap, ◌∙◌, arith}
use Rattle.pv_base.specs.Polyvalue.{Case, IsCanonical, sure, tested}
use Rattle.pv_base.proofs.Basics.{heads}
use Rattle.pv_cases.proofs.CaseCounts.{length-tested, some_case}
use Rattle.pv_tree.specs.Last.{IsLast}
use Rattle.pv_tree.specs.Meanings.{cases_at}

module _ {V : Type 0} where
  one-by : (case : Case V) (cases : List (Case V)) → IsCanonical cases → cases ≡ case ∷ [] → case ∷ [] ≡ record { when = []; value = case.value } ∷ []
  one-by case cases (sure value) is =
      let same = sym (heads is) in
      ap (λ (c : Case V). c ∷ []) same ∙ ap (λ (v : V). record { when = []; value = v } ∷ []) (sym (ap (λ (c : Case V). c.value) same))
  one-by case cases (tested txn aborted committed f b fb bb d) is =
      absurd (omega (arith, some_case f, some_case b, length-tested txn aborted committed, ap length is))

  -- One canonical case alone is always met.
  pub one-sure : (case : Case V) → IsCanonical (case ∷ []) → case ∷ [] ≡ record { when = []; value = case.value } ∷ []
  one-sure case canonical = one-by case (case ∷ []) canonical refl

  -- What is known of one canonical case.

  pub only-value : (cases : List (Case V)) (x : Case V) (value : V) → length cases ≡ 1 → x ≡ get_or cases 0 x → value ≡ x.value → IsCanonical cases → cases ≡ record { when = []; value = value } ∷ []
  only-value [] x value one is has canonical = absurd (omega (arith, one))
  only-value (case ∷ []) x value one is has canonical =
      one-sure case canonical ∙ ap (λ (v : V). record { when = []; value = v } ∷ []) (ap (λ (c : Case V). c.value) (sym is) ∙ sym has)
  only-value (case ∷ next ∷ more) x value one is has canonical = absurd (omega (arith, one))

  pub one-alone : (cases : List (Case V)) → length cases ≡ 1 → IsCanonical cases → (value : V) × (cases ≡ record { when = []; value = value } ∷ [])
  one-alone [] one canonical = absurd (omega (arith, one))
  one-alone (case ∷ []) one canonical = (case.value, one-sure case canonical)
  one-alone (case ∷ next ∷ more) one canonical = absurd (omega (arith, one))

  -- The number of the last node.
  pub last-there : (meanings : List (List (Case V))) (cases : List (Case V)) (root : ℕ) → IsLast meanings cases → root ≡ length meanings - 1 → root < length meanings
  last-there meanings cases root is at = omega (arith, is.some, at)

  pub last-is : (meanings : List (List (Case V))) (cases : List (Case V)) (root : ℕ) → IsLast meanings cases → root ≡ length meanings - 1 → cases_at meanings root ≡ cases
  last-is meanings cases root is at = ap (cases_at meanings) at ∙ is.is

  pub last-from : (meanings : List (List (Case V))) (cases : List (Case V)) (root : ℕ) → length meanings ≡ root + 1 → cases_at meanings root ≡ cases → IsLast meanings cases
  last-from meanings cases root long is = record {
    some = omega (arith, long);
    is = ap (cases_at meanings) (omega (arith, long)) ∙ is;
  }
