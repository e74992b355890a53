-- Acts lead to every world of a run, and what a site has in memory stands in order.
use Rattle.pv_law_answers.proofs.RunLemmas.{any-answers, run-answers}
use Rattle.pv_law_answers.proofs.runs.commits_answer.Goals as goal
use Rattle.pv_law_events.proofs.RunActs.{any-run-reached, run-reached}
use Rattle.pv_law_world.proofs.EpochLemmas.{IsOrdered, order-kept}
use Rattle.pv_law_world.proofs.SiteLemmas.{up-any-run, up-run}
use Rattle.pv_law_world.proofs.TransitionLemmas.{run-transitions}
use Rattle.pv_protocol.specs.Run.{run}
use Rattle.pv_protocol.specs.World.{opening}

pub returns-clause-run : goal.returns-clause-run
returns-clause-run c = λ setup events well.
    run-answers setup (run setup (opening setup) events) (run-reached setup events well) (up-run setup IsOrdered (order-kept setup) events) (run-transitions setup (opening setup) events)

pub returns-clause-faults : goal.returns-clause-faults
returns-clause-faults c = λ setup transitions faults.
    any-answers setup transitions (any-run-reached setup transitions faults) (up-any-run setup IsOrdered (order-kept setup) transitions faults) faults
