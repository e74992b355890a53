-- The lemmas, with what came before each transition of a run.
use Rattle.pv_law_refusals.proofs.Chains.{any-run-links, run-links}
use Rattle.pv_law_refusals.proofs.MessageHistories.{messages-came-before}
use Rattle.pv_law_refusals.proofs.WaitHistories.{ages-before}
use Rattle.pv_law_events.proofs.RunActs.{any-run-reached, run-reached}
use Rattle.pv_law_refusals.proofs.JoinLemmas.{any-refusals, run-refusals}
use Rattle.pv_law_refusals.proofs.refusals.refusals_hold.Goals as goal
use Rattle.pv_law_world.proofs.EpochLemmas.{IsOrdered, order-kept}
use Rattle.pv_law_world.proofs.SiteLemmas.{up-any-run, up-run}
use Rattle.pv_law_world.proofs.TransitionLemmas.{run-transitions}
use Rattle.pv_protocol.specs.Run.{run}
use Rattle.pv_protocol.specs.World.{opening}

pub returns-clause-run : goal.returns-clause-run
returns-clause-run c = λ setup events well.
    let all = run setup (opening setup) events in
    let links = run-links setup events well in
    run-refusals setup all (run-reached setup events well) (up-run setup IsOrdered (order-kept setup) events)
    (λ place. messages-came-before setup all links place) (λ place. ages-before setup all links place) (run-transitions setup (opening setup) events)

pub returns-clause-faults : goal.returns-clause-faults
returns-clause-faults c = λ setup transitions faults.
    let links = any-run-links setup transitions faults in
    any-refusals setup transitions (any-run-reached setup transitions faults) (up-any-run setup IsOrdered (order-kept setup) transitions faults)
    (λ place. messages-came-before setup transitions links place) (λ place. ages-before setup transitions links place) faults
