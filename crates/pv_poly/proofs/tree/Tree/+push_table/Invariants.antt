use Rattle.std.proofs.Common.{◌+◌, length}
use Rattle.pv_poly.proofs.tree.Tree.+push_table.Given as goal

abbrev pub decreases-push_table : goal.decreases-push_table
decreases-push_table g l = length l.self.now + length l.txns.now
