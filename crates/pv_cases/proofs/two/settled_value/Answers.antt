-- One case alone stays, and of a choice the side that the outcome chooses is what is settled.
use Rattle.std.proofs.Common.{◌≡◌, ◌∙◌, [], ◌∷◌, List, ap, refl, subst, sym}
use Rattle.std.specs.Prelude.{if◌then◌else◌}
use Rattle.pv_base.specs.declared.literal.Literal.{Literal}
use Rattle.pv_base.specs.Polyvalue.{Case, IsSettled}
use Rattle.pv_cases.proofs.SettledLemmas.{nothing-settled}
use Rattle.pv_cases.proofs.SureSettled.{both, only, only-settled}
use Rattle.pv_cases.proofs.two.settled_value.Goals as goal
use Rattle.pv_cases.proofs.two.settled_value.Goals.{then-literal, else-literal}

pub returns-in-Some : goal.returns-in-Some
returns-in-Some g c =
    let one : List (Case _) = record { when = []; value = c.in-Some.value } ∷ [] in
    subst (λ (cases : List (Case _)). IsSettled c.args.literals.now cases one) (sym c.in-Some.ensures) (nothing-settled c.args.literals.now one (λ u. refl))

pub returns : goal.returns
returns g c =
    let literal = c.in_ok-literal.literal in
    let values = c.in_ok-values.values in
    let chosen : c.if-literal.result ≡ (if literal.commits then values.1 else values.0) =
    elim c.if-literal.branch [
      | then-literal w ↦ w.result-is ∙ sym (ap (λ outcome. if outcome then values.1 else values.0) w.if-literal.true)
      | else-literal w ↦ w.result-is ∙ sym (ap (λ outcome. if outcome then values.1 else values.0) w.if-literal.false)
    ] in
    subst (λ (literals : List Literal). IsSettled literals c.args.cases.now (only literal.txn values.0 values.1 c.if-literal.result)) (sym c.in_ok-literal.ensures)
    (subst (λ (cases : List (Case _)). IsSettled (literal ∷ []) cases (only literal.txn values.0 values.1 c.if-literal.result)) (sym c.in_ok-values.ensures)
    (subst (λ value. IsSettled (literal ∷ []) (both literal.txn values.0 values.1) (only literal.txn values.0 values.1 value)) (sym chosen)
    (only-settled literal.txn values.0 values.1 literal.commits)))
