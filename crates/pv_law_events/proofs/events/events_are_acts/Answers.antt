use Rattle.pv_law_events.proofs.EventActs.{transition-acts, follow-acts}
use Rattle.pv_law_events.proofs.events.events_are_acts.Goals as goal
use Rattle.pv_law_outcomes.proofs.DecidedLemmas.{always-settled}

pub returns-clause-run : goal.returns-clause-run
returns-clause-run c setup world event reached recorded ordered well =
    transition-acts setup world (record { reached = reached; settled = always-settled setup world reached; recorded = recorded; ordered = ordered }) event well

pub returns-clause-faults : goal.returns-clause-faults
returns-clause-faults c setup world transition reached recorded ordered follows =
    follow-acts setup world (record { reached = reached; settled = always-settled setup world reached; recorded = recorded; ordered = ordered }) transition follows
