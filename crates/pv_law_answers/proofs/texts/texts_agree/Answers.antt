-- The events of a schedule's text are well formed.
use Rattle.pv_law_answers.proofs.ReportLemmas.{run-reports-serial}
use Rattle.pv_law_answers.proofs.RunLemmas.{reports-agree}
use Rattle.pv_law_answers.proofs.texts.texts_agree.Goals as goal
use Rattle.pv_law_events.proofs.RunActs.{outcomes-agree, run-reached}
use Rattle.pv_law_world.proofs.ScheduleLemmas.{schedule-well}
use Rattle.pv_law_world.proofs.TransitionLemmas.{run-transitions}
use Rattle.pv_law_world.specs.Ranges.{with_limits}
use Rattle.pv_protocol.specs.Run.{run, worlds_of}
use Rattle.pv_protocol.specs.World.{opening}

pub returns-clause-reports : goal.returns-clause-reports
returns-clause-reports c = λ text schedule read_names held_names is.
    let setup = with_limits schedule.catalog read_names held_names in
    reports-agree setup (run setup (opening setup) schedule.events) (run-reached setup schedule.events (schedule-well text schedule is))

pub returns-clause-outcomes : goal.returns-clause-outcomes
returns-clause-outcomes c = λ text schedule read_names held_names is.
    let setup = with_limits schedule.catalog read_names held_names in
    outcomes-agree setup (worlds_of (opening setup) (run setup (opening setup) schedule.events)) (run-reached setup schedule.events (schedule-well text schedule is))

pub returns-clause-shown : goal.returns-clause-shown
returns-clause-shown c = λ text schedule read_names held_names is.
    let setup = with_limits schedule.catalog read_names held_names in
    run-reports-serial setup (run setup (opening setup) schedule.events) (run-reached setup schedule.events (schedule-well text schedule is))
    (run-transitions setup (opening setup) schedule.events)
