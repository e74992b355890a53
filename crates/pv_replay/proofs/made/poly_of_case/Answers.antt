-- A case that is always met is the polyvalue of its value.
use Rattle.std.proofs.Common.{◌≡◌, ◌∙◌, [], ◌∷◌, ℤ, List, FitsSigned, length, w64, arith, ap, refl, rules, sym}
use Rattle.std.proofs.lemmas.Bool.{eqb-true}
use Rattle.pv_base.specs.Polyvalue.{Case}
use Rattle.pv_base.specs.declared.literal.Literal.{Literal}
use Rattle.pv_replay.proofs.CaseLemmas.{sure_cases}
use Rattle.pv_replay.proofs.made.poly_of_case.Goals as goal

no-more : {X : Type 0} (xs : List X) → length xs ≡ 0 → xs ≡ []
no-more [] none = refl
no-more (x ∷ xs) none = absurd (omega (arith, none))

pub returns-then-is_empty-clause-kept : goal.returns-then-is_empty-clause-kept
returns-then-is_empty-clause-kept c =
    let when = c.case.inside.when in
    let value = c.case.inside.value in
    let none : when.items ≡ [] = no-more when.items (sym when.ok.0 ∙ eqb-true when.len 0 (sym c.if-is_empty.ensures)) in
    let fits : FitsSigned w64 value = search rules in
    let only = sure_cases value c.in_ok-sure.field-0 fits c.in_ok-sure.ensures.polyvalue c.in_ok-sure.ensures.value in
    record {
      kept = only ∙ ap (λ (literals : List Literal). record { when = literals; value = value } ∷ []) (sym none) ∙ ap (λ (case : Case ℤ). case ∷ []) c.case.view_is;
      polyvalue = c.in_ok-sure.ensures.polyvalue;
    }
