-- What one case alone is that is always met.
use Rattle.std.proofs.Common.{◌≡◌, true, List, [], ◌∷◌, length, refl, ap, arith}
use Rattle.std.specs.Prelude.{◌==◌}
use Rattle.std.proofs.lemmas.Bool.{eqb-true, false≢true}
use Rattle.pv_base.specs.declared.literal.Literal.{Literal}
use Rattle.pv_base.specs.Polyvalue.{Case}
use Rattle.pv_cases.specs.Sure.{is_one_case}

no-literal : (when : List Literal) → (length when == 0) ≡ true → when ≡ []
no-literal [] is = refl
no-literal (literal ∷ more) is = absurd (omega (arith, eqb-true (length (literal ∷ more)) 0 is))

-- The case is the value's alone.
pub one-case-is : {V : Type 0} (cases : List (Case V)) → is_one_case cases ≡ true → (value : V) × (cases ≡ record { when = []; value = value } ∷ [])
one-case-is [] is = absurd (false≢true is)
one-case-is {V} (case ∷ []) is = (case.value, ap (λ (when : List Literal). record { when = when; value = case.value } ∷ []) (no-literal case.when is))
one-case-is (case ∷ next ∷ more) is = absurd (false≢true is)
