use Rattle.pv_cell.proofs.CourseLemmas.{new-course, tick-course, visit-course}
use Rattle.pv_cell.proofs.course.boxes_keep_their_course.Goals as goal

pub returns-clause-new : goal.returns-clause-new
returns-clause-new g c box is = new-course box is

pub returns-clause-visit : goal.returns-clause-visit
returns-clause-visit g c old new visit is_box visits has =
    visit-course g.L.Log.model c.histories_grow.ensures.course c.sites_go_on.ensures.more c.sites_go_on.ensures.none old new is_box has visit visits

pub returns-clause-tick : goal.returns-clause-tick
returns-clause-tick g c old new visit is_box takes has =
    tick-course g.L.Log.model c.histories_grow.ensures.course c.sites_go_on.ensures.more c.sites_go_on.ensures.none old new is_box has visit takes
