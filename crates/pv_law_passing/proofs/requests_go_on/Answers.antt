use Rattle.pv_law_passing.proofs.RingLemmas.{stands-lost, stands-more, stands-other}
use Rattle.pv_law_passing.proofs.requests_go_on.Goals as goal

pub returns-clause-stands : goal.returns-clause-stands
returns-clause-stands c client taken history entry asked is stands = stands-more client taken history entry asked is stands

pub returns-clause-lost : goal.returns-clause-lost
returns-clause-lost c client taken history asked stands = stands-lost client taken history asked stands

pub returns-clause-other : goal.returns-clause-other
returns-clause-other c client history entry none = stands-other client history entry none
