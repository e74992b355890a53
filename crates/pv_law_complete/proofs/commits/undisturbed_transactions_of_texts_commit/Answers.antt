-- The events of a schedule's text are well formed.
use Rattle.pv_law_refusals.proofs.Chains.{run-links}
use Rattle.pv_law_complete.proofs.GoneLemmas.{run-gone}
use Rattle.pv_law_complete.proofs.RunLemmas.{undisturbed-commit}
use Rattle.pv_law_complete.proofs.commits.undisturbed_transactions_of_texts_commit.Goals as goal
use Rattle.pv_law_world.proofs.ScheduleLemmas.{schedule-well}
use Rattle.pv_law_world.proofs.TransitionLemmas.{run-transitions}
use Rattle.pv_law_world.specs.Ranges.{with_limits}
use Rattle.pv_protocol.specs.Run.{run}
use Rattle.pv_protocol.specs.World.{opening}

pub returns : goal.returns
returns c = λ text schedule read_names held_names room is.
    let setup = with_limits schedule.catalog read_names held_names in
    let all = run setup (opening setup) schedule.events in
    let links = run-links setup schedule.events (schedule-well text schedule is) in
    undisturbed-commit setup room all (run-gone setup (opening setup) all (run-transitions setup (opening setup) schedule.events) links) links
