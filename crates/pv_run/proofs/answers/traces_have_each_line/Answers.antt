-- Of a schedule's lines those that declare something come first, and each other is one event.
use Rattle.pv_run.proofs.TraceLemmas.{trace-is}
use Rattle.pv_run.proofs.answers.traces_have_each_line.Goals as goal

pub returns : goal.returns
returns c = λ input schedule is. trace-is input schedule is
