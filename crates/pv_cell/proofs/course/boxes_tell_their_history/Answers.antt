use Rattle.pv_cell.proofs.ToldLemmas.{new-told, tick-told, visit-told}
use Rattle.pv_cell.proofs.course.boxes_tell_their_history.Goals as goal

pub returns-clause-new : goal.returns-clause-new
returns-clause-new g c box is = new-told box is

pub returns-clause-visit : goal.returns-clause-visit
returns-clause-visit g c old new visit visits told = visit-told g.L.Log.model old new told visit visits

pub returns-clause-tick : goal.returns-clause-tick
returns-clause-tick g c old new visit takes told = tick-told g.L.Log.model old new told visit takes
