use Rattle.pv_law_events.proofs.PremiseLemmas.{well-formed, in-range}
use Rattle.pv_law_events.proofs.examples.events_are_well_formed.Goals as goal

pub returns-clause-events : goal.returns-clause-events
returns-clause-events c = well-formed

pub returns-clause-setup : goal.returns-clause-setup
returns-clause-setup c = in-range
