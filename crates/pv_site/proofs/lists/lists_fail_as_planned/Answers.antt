use Rattle.pv_site.proofs.ListLemmas.{lists-open, lists-step}
use Rattle.pv_site.proofs.lists.lists_fail_as_planned.Goals as goal

pub returns-clause-steps : goal.returns-clause-steps
returns-clause-steps c = λ old new input result made. lists-step old new input result made

pub returns-clause-openings : goal.returns-clause-openings
returns-clause-openings c = λ old me catalog result opened. lists-open old me catalog result opened
