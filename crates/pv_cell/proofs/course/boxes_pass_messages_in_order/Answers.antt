use Rattle.pv_cell.proofs.PassingLemmas.{pass-in-order}
use Rattle.pv_cell.proofs.course.boxes_pass_messages_in_order.Goals as goal

pub returns : goal.returns
returns g c catalog boxes are from to any of_from of_to = pass-in-order catalog boxes are from to any of_from of_to
