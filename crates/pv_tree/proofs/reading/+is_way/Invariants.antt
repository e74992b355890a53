use Rattle.std.proofs.Common.{length}
use Rattle.pv_tree.proofs.reading.+is_way.Given as goal

abbrev pub decreases-is_way : goal.decreases-is_way
decreases-is_way l = length l.when.now
