-- The polyvalue has one case, of the row's value.
use Rattle.std.proofs.Common.{◌≡◌, ◌∙◌, ℕ, ℤ, List, FitsSigned, w64, to_z, of_z, ap, ap₂, rules}
use Rattle.std.proofs.lemmas.Int.{to_z-of_z}
use Rattle.pv_base.specs.Polyvalue.{Case}
use Rattle.pv_model.specs.Meaning.{Row}
use Rattle.pv_split.specs.Sure.{sure_cases}
use Rattle.pv_split.proofs.SureLemmas.{same-everywhere}
use Rattle.pv_split.proofs.sure.sure_write.Goals as goal

pub returns : goal.returns
returns c =
    let fits : FitsSigned w64 c.row.inside.value = search rules in
    let value : to_z w64 (of_z w64 c.row.inside.value) ≡ c.args.row.value = to_z-of_z w64 c.row.inside.value fits ∙ ap (λ (row : Row). row.value) c.row.view_is in
    ap₂ (λ (item : ℕ) (cases : List (Case ℤ)). record { item = item; cases = cases }) (ap (λ (row : Row). row.item) c.row.view_is)
    (same-everywhere c.in_ok-sure.field-0 _ c.in_ok-sure.ensures.polyvalue.canonical c.in_ok-sure.ensures.value ∙ ap sure_cases value)
