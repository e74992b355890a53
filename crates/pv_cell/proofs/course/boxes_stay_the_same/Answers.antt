use Rattle.pv_cell.proofs.SameLemmas.{became-self, became-trans, tick-became, visit-became}
use Rattle.pv_cell.proofs.course.boxes_stay_the_same.Goals as goal

pub returns-clause-none : goal.returns-clause-none
returns-clause-none g c box = became-self g.L.Log.model box

pub returns-clause-visit : goal.returns-clause-visit
returns-clause-visit g c old new visit visits = visit-became g.L.Log.model old new visit visits

pub returns-clause-tick : goal.returns-clause-tick
returns-clause-tick g c old new visit takes = tick-became g.L.Log.model old new visit takes

pub returns-clause-both : goal.returns-clause-both
returns-clause-both g c old mid new one other = became-trans g.L.Log.model old mid new one other
