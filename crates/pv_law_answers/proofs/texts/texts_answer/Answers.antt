-- The events of a schedule's text are well formed.
use Rattle.pv_law_answers.proofs.RunLemmas.{run-answers}
use Rattle.pv_law_answers.proofs.texts.texts_answer.Goals as goal
use Rattle.pv_law_events.proofs.RunActs.{run-reached}
use Rattle.pv_law_world.proofs.EpochLemmas.{IsOrdered, order-kept}
use Rattle.pv_law_world.proofs.ScheduleLemmas.{schedule-well}
use Rattle.pv_law_world.proofs.SiteLemmas.{up-run}
use Rattle.pv_law_world.proofs.TransitionLemmas.{run-transitions}
use Rattle.pv_law_world.specs.Ranges.{with_limits}
use Rattle.pv_protocol.specs.Run.{run}
use Rattle.pv_protocol.specs.World.{opening}

pub returns : goal.returns
returns c = λ text schedule read_names held_names is.
    let setup = with_limits schedule.catalog read_names held_names in
    run-answers setup (run setup (opening setup) schedule.events) (run-reached setup schedule.events (schedule-well text schedule is))
    (up-run setup IsOrdered (order-kept setup) schedule.events) (run-transitions setup (opening setup) schedule.events)
