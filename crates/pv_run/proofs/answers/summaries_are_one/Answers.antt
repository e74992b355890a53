-- An input has one answer, also where that is a summary.
use Rattle.std.proofs.Common.{[]}
use Rattle.pv_run.specs.Summary.{summary_of}
use Rattle.pv_run.proofs.AnswerLemmas.{one_answer}
use Rattle.pv_run.proofs.answers.summaries_are_one.Goals as goal

pub returns : goal.returns
returns c = λ input one other output text a b. one_answer summary_of (λ schedule. []) input one other output text a b
