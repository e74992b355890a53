use Rattle.std.proofs.Common.{length}
use Rattle.pv_tree.proofs.nodes.Nodes.+from_table.Given as goal

abbrev pub decreases-from_table : goal.decreases-from_table
decreases-from_table g l = length l.txns.now
