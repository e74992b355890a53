use Rattle.pv_cell.proofs.LendingLemmas.{lent-box, lent-course, lent-same, lent-told}
use Rattle.pv_cell.proofs.course.boxes_lend_their_ends.Goals as goal

pub returns-clause-is_box : goal.returns-clause-is_box
returns-clause-is_box g c box ends still is = lent-box box ends still g.L.Log.model is

pub returns-clause-course : goal.returns-clause-course
returns-clause-course g c box ends still has = lent-course box ends still has

pub returns-clause-told : goal.returns-clause-told
returns-clause-told g c box ends still tells = lent-told box ends still tells

pub returns-clause-same : goal.returns-clause-same
returns-clause-same g c box ends still = lent-same box ends still g.L.Log.model
