-- Below a test fewer tests may come.
use Rattle.std.proofs.Common.{◌+◌, ◌*◌}
use Rattle.pv_replay.proofs.poly.+node.Given as goal

abbrev pub decreases-take_node : goal.decreases-take_node
decreases-take_node l = 2 * l.tests

abbrev pub decreases-take_side : goal.decreases-take_side
decreases-take_side l = 2 * l.tests + 1
