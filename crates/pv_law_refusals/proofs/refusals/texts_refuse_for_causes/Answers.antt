-- The events of a schedule's text are well formed.
use Rattle.pv_law_refusals.proofs.Chains.{run-links}
use Rattle.pv_law_refusals.proofs.MessageHistories.{messages-came-before}
use Rattle.pv_law_refusals.proofs.WaitHistories.{ages-before}
use Rattle.pv_law_events.proofs.RunActs.{run-reached}
use Rattle.pv_law_refusals.proofs.JoinLemmas.{run-refusals}
use Rattle.pv_law_refusals.proofs.refusals.texts_refuse_for_causes.Goals as goal
use Rattle.pv_law_world.proofs.EpochLemmas.{IsOrdered, order-kept}
use Rattle.pv_law_world.proofs.ScheduleLemmas.{schedule-well}
use Rattle.pv_law_world.proofs.SiteLemmas.{up-run}
use Rattle.pv_law_world.proofs.TransitionLemmas.{run-transitions}
use Rattle.pv_law_world.specs.Ranges.{with_limits}
use Rattle.pv_protocol.specs.Run.{run}
use Rattle.pv_protocol.specs.World.{opening}

pub returns : goal.returns
returns c = λ text schedule read_names held_names is.
    let setup = with_limits schedule.catalog read_names held_names in
    let well = schedule-well text schedule is in
    let all = run setup (opening setup) schedule.events in
    let links = run-links setup schedule.events well in
    run-refusals setup all (run-reached setup schedule.events well) (up-run setup IsOrdered (order-kept setup) schedule.events)
    (λ place. messages-came-before setup all links place) (λ place. ages-before setup all links place) (run-transitions setup (opening setup) schedule.events)
