-- Whatever is written of a run, an input has one answer.
use Rattle.pv_run.specs.InputAnswers.{written_of, written_within}
use Rattle.pv_run.proofs.AnswerLemmas.{one_answer}
use Rattle.pv_run.proofs.answers.answers_are_one.Goals as goal

pub returns : goal.returns
returns c = λ form input one other output text a b. one_answer (written_of form input) (written_within form input) input one other output text a b
