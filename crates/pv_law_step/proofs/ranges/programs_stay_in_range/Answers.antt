-- The lemma, as the law of an empty function.
use Rattle.std.specs.Int.RustNames.{FitsSigned}
use Rattle.std.specs.Int.{w64}
use Rattle.std.proofs.lemmas.List.Elements.{All-contains, All-contains_itself}
use Rattle.pv_law_step.proofs.FitLemmas.{all-fit, fit-each, exec-fits}
use Rattle.pv_law_step.proofs.ranges.programs_stay_in_range.Goals as goal
use Rattle.pv_model.specs.Meaning.{Row, exec}

pub returns : goal.returns
returns c = λ program rows small fit.
    let after = exec-fits program rows small (all-fit rows (λ row h. All-contains (λ (row : Row). FitsSigned w64 row.value) rows row fit h)) in
    λ k d within. fit-each (exec program rows).rows after _ (All-contains_itself (exec program rows).rows k d within)
