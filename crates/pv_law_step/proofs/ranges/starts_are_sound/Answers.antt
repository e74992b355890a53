-- The lemma, as the law of an empty function.
use Rattle.pv_law_step.proofs.StartLemmas.{start-case, start-sound}
use Rattle.pv_law_step.proofs.ranges.starts_are_sound.Goals as goal

pub returns : goal.returns
returns c = λ sites setup bound most me surplus records fine here all narrow running new same.
    start-sound sites setup bound most me surplus records fine here all narrow _ (start-case setup surplus records) running new same
