use Rattle.std.proofs.Common.{◌+◌, length}
use Rattle.pv_tree.proofs.nodes.Nodes.+push_table.Given as goal

abbrev pub decreases-push_table : goal.decreases-push_table
decreases-push_table g l = l.number + length l.txns.now
