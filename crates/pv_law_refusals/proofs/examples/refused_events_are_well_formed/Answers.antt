use Rattle.pv_law_refusals.proofs.RefusedLemmas.{contested-fine, read-fine, certain-fine, unanswered-fine, forgotten-fine, raise-fine}
use Rattle.pv_law_refusals.proofs.examples.refused_events_are_well_formed.Goals as goal

pub returns-clause-contested : goal.returns-clause-contested
returns-clause-contested c = contested-fine

pub returns-clause-read : goal.returns-clause-read
returns-clause-read c = read-fine

pub returns-clause-certain : goal.returns-clause-certain
returns-clause-certain c = certain-fine

pub returns-clause-unanswered : goal.returns-clause-unanswered
returns-clause-unanswered c = unanswered-fine

pub returns-clause-forgotten : goal.returns-clause-forgotten
returns-clause-forgotten c = forgotten-fine

pub returns-clause-raised : goal.returns-clause-raised
returns-clause-raised c = raise-fine
