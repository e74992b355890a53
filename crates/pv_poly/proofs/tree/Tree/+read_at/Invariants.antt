use Rattle.std.proofs.Common.{length}
use Rattle.pv_poly.proofs.tree.Tree.+read_at.Given as goal

abbrev pub decreases-read_at : goal.decreases-read_at
decreases-read_at g l = length l.cases.now
