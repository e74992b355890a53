-- Cases read by their words, one behind another.
use Rattle.std.proofs.Common.{◌≡◌, ℕ, ℤ, ◌<◌, List, [], ◌∷◌, ◌++◌, Bor, Option, Some, None, length, MatchOption, option_map, refl, sym, ap, subst, ◌∙◌, arith, append_assoc}
use Rattle.std.specs.Prelude.{codes}
use Rattle.std.specs.List.{All, Contains}
use Rattle.std.proofs.lemmas.List.Elements.{All-head, All-tail, All-nil}
use Rattle.pv_audit.specs.Printed.{IsCase}
use Rattle.pv_audit.specs.Words.{case_words, cases_words}
use Rattle.pv_audit.proofs.CutLemmas.{one-cut, cut-has}
use Rattle.pv_audit.proofs.OneFormLemmas.{case-without}
use Rattle.pv_base.specs.Polyvalue.{Case}
use Rattle.pv_script.specs.LineFaults.{texts}

-- Words that are still to be read are those of some cases, or nothing is left.
abbrev pub IsLeft : Option (List (List ℕ)) → List (Case ℤ) → Type 0
IsLeft None more = more ≡ []
IsLeft (Some words) more = (0 < length more) × (words ≡ cases_words more)

-- The words are cut at their first semicolon.
abbrev pub IsCutAt : List (List ℕ) → List (List ℕ) → Option (List (List ℕ)) → Type 0
IsCutAt words front None = words ≡ front
IsCutAt words front (Some behind) = words ≡ front ++ codes ";" ∷ behind

-- ---- what is read is what stands there

joined-left : (rest front : List (List ℕ)) (behind : Option (List (List ℕ))) (case : Case ℤ) (more : List (Case ℤ)) → front ≡ case_words case → IsCutAt rest front behind
    → IsLeft behind more → rest ≡ cases_words (case ∷ more)
joined-left rest front None case [] is cut left = cut ∙ is
joined-left rest front None case (m ∷ more) is cut left = absurd (let never : ⊥ = cc in never)
joined-left rest front (Some behind) case [] is cut left = absurd (omega (arith, left.0))
joined-left rest front (Some behind) case (m ∷ more) is cut left =
    cut ∙ ap (λ (words : List (List ℕ)). words ++ codes ";" ∷ behind) is ∙ ap (λ (words : List (List ℕ)). case_words case ++ codes ";" ∷ words) left.1

pub sound-step : (whole rest front : List (List ℕ)) (behind : Option (List (List ℕ))) (done : List (Case ℤ)) (case : Case ℤ)
    → ((more : List (Case ℤ)) → IsLeft (Some rest) more → whole ≡ cases_words (done ++ more)) → front ≡ case_words case → IsCutAt rest front behind
    → (more : List (Case ℤ)) → IsLeft behind more → whole ≡ cases_words ((done ++ case ∷ []) ++ more)
sound-step whole rest front behind done case sound is cut more left =
    sound (case ∷ more) (omega arith, joined-left rest front behind case more is cut left) ∙ ap cases_words (sym (append_assoc done (case ∷ []) more))

-- ---- what stands there is read

-- the first case, and those behind it
pub record IsParted (front : List (List ℕ)) (behind : Option (List (List ℕ))) : Type 0 where
  pub case : Case ℤ
  pub good : IsCase case
  pub is : front ≡ case_words case
  pub more : List (Case ℤ)
  pub each : All IsCase more
  pub left : IsLeft behind more

pub part : (rest front : List (List ℕ)) (behind : Option (List (List ℕ))) (more : List (Case ℤ)) → (Contains front (codes ";") → ⊥) → IsCutAt rest front behind
    → All IsCase more → IsLeft (Some rest) more → IsParted front behind
part rest front behind [] free cut each left = absurd (omega (arith, left.0))
part rest front None (case ∷ []) free cut each left = record {
  case = case;
  good = All-head IsCase case [] each;
  is = sym cut ∙ left.1;
  more = [];
  each = All-nil IsCase;
  left = refl;
}
part rest front (Some behind) (case ∷ []) free cut each left =
    absurd (case-without case (subst (λ (words : List (List ℕ)). Contains words (codes ";")) (sym cut ∙ left.1) (cut-has (codes ";") front behind)))
part rest front None (case ∷ next ∷ more) free cut each left =
    absurd (free (subst (λ (words : List (List ℕ)). Contains words (codes ";")) (sym left.1 ∙ cut) (cut-has (codes ";") (case_words case) (cases_words (next ∷ more)))))
part rest front (Some behind) (case ∷ next ∷ more) free cut each left =
    let same = one-cut (codes ";") front behind (case_words case) (cases_words (next ∷ more)) free (case-without case) (sym cut ∙ left.1) in
    record {
      case = case;
      good = All-head IsCase case (next ∷ more) each;
      is = same.0;
      more = next ∷ more;
      each = All-tail IsCase case (next ∷ more) each;
      left = (omega arith, same.1);
    }

-- What is cut is said of words, and of their texts.
pub as-cut : (words front : List (List ℕ)) (behind : Option (Bor (List (Bor (List ℕ))))) → MatchOption behind (words ≡ front) (λ rest. words ≡ front ++ codes ";" ∷ texts rest.now)
    → IsCutAt words front (option_map (λ rest. texts rest.now) behind)
as-cut words front None cut = cut
as-cut words front (Some rest) cut = cut
