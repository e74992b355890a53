-- Whatever is written of a run, an input has an answer.
use Rattle.std.proofs.Common.{[]}
use Rattle.pv_run.specs.InputAnswers.{written_of, written_within}
use Rattle.pv_run.specs.Summary.{summary_of}
use Rattle.pv_run.proofs.AnswerLemmas.{some_answer}
use Rattle.pv_run.proofs.answers.answers_exist.Goals as goal

pub returns-clause-some : goal.returns-clause-some
returns-clause-some c = λ form input. some_answer (written_of form input) (written_within form input) input

pub returns-clause-some_summary : goal.returns-clause-some_summary
returns-clause-some_summary c = λ input. some_answer summary_of (λ schedule. []) input
