-- The lemma on what the run of a schedule prints.
use Rattle.std.proofs.Common.{arith}
use Rattle.pv_base.specs.declared.limits.TheConstants.{HELD_NAMES, READ_NAMES}
use Rattle.pv_law_traces.proofs.OrderRanges.{run-printable}
use Rattle.pv_law_traces.proofs.RunRanges.{run-within, schedule-numbered}
use Rattle.pv_law_traces.proofs.SentLimits.{run-sends}
use Rattle.pv_law_traces.proofs.runs_print_within.Goals as goal
use Rattle.pv_site.specs.SiteState.{setup_of}

pub returns : goal.returns
returns c text schedule is within =
    let setup = setup_of schedule.catalog in
    let setup_fine = c.schedules_are_in_range.ensures text schedule READ_NAMES HELD_NAMES is (omega arith) (omega arith) in
    let fine = c.runs_of_texts_stay_in_range.ensures.run text schedule READ_NAMES HELD_NAMES is (omega arith) (omega arith) in
    run-within setup setup_fine schedule.events (c.schedules_are_well_formed.ensures text schedule is) (schedule-numbered text schedule is) fine
    (run-printable setup setup_fine schedule.events fine (run-sends schedule within))
