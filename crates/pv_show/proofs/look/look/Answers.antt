use Rattle.std.proofs.Common.{◌∙◌, true, false, Err, sym, ap}
use Rattle.pv_show.proofs.FoundLemmas.{found-by, untold}
use Rattle.pv_show.proofs.look.look.Goals as goal

pub returns-in-Ok-true-clause-answer : goal.returns-in-Ok-true-clause-answer
returns-in-Ok-true-clause-answer g c = λ bytes is.
    found-by bytes c.look.result true (sym c.in-Ok-true.field-0-test ∙ c.in-Ok-true.ensures.begins bytes is) (c.look.ensures.answer bytes (c.in-Ok-true.ensures.effect.1 ∙ is))

pub returns-in-Ok-false-clause-answer : goal.returns-in-Ok-false-clause-answer
returns-in-Ok-false-clause-answer g c = λ bytes is.
    found-by bytes c.look-in-Ok-false.result false (sym c.in-Ok-false.field-0-test ∙ c.in-Ok-false.ensures.begins bytes is) (c.look-in-Ok-false.ensures.answer bytes (c.in-Ok-false.ensures.effect.1 ∙ is))

pub returns-in-Err-clause-answer : goal.returns-in-Err-clause-answer
returns-in-Err-clause-answer g c = λ bytes is. untold bytes c.in-Err.e (λ at same. c.in-Err.ensures.not_ours at (ap (λ e. Err e) same))
