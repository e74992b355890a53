-- Acts lead to every world of a run.
use Rattle.pv_law_answers.proofs.OrderLemmas.{committed-once}
use Rattle.pv_law_answers.proofs.RunLemmas.{all-settled}
use Rattle.pv_law_answers.proofs.orders.committed_stand_once.Goals as goal
use Rattle.pv_law_answers.specs.Orders.{CommittedStandOnce}
use Rattle.pv_law_events.proofs.RunActs.{any-run-reached, run-reached}
use Rattle.pv_protocol.specs.Run.{run, worlds_of}
use Rattle.pv_protocol.specs.World.{opening}

pub returns-clause-run : goal.returns-clause-run
returns-clause-run c = λ setup events well.
    all-settled setup (worlds_of (opening setup) (run setup (opening setup) events)) (run-reached setup events well) CommittedStandOnce (λ world settled. committed-once setup world settled)

pub returns-clause-faults : goal.returns-clause-faults
returns-clause-faults c = λ setup transitions faults.
    all-settled setup (worlds_of (opening setup) transitions) (any-run-reached setup transitions faults) CommittedStandOnce (λ world settled. committed-once setup world settled)
