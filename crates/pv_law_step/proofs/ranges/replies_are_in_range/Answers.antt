-- The lemma, as the law of an empty function.
use Rattle.std.proofs.Common.{subst}
use Rattle.std.specs.Int.RustNames.{FitsSigned}
use Rattle.std.specs.Int.{w64}
use Rattle.std.proofs.lemmas.List.Elements.{All-contains}
use Rattle.pv_law_step.proofs.FitLemmas.{ReplyFits, all-fit, reply-fits}
use Rattle.pv_law_step.proofs.ranges.replies_are_in_range.Goals as goal
use Rattle.pv_model.specs.Meaning.{Row}

pub returns : goal.returns
returns c = λ program rows value small fit is.
    subst ReplyFits is (reply-fits program rows small (all-fit rows (λ row h. All-contains (λ (row : Row). FitsSigned w64 row.value) rows row fit h)))
