use Rattle.std.proofs.Common.{◌+◌, length}
use Rattle.pv_poly.proofs.tree.Tree.+choose.Given as goal

abbrev pub decreases-choose : goal.decreases-choose
decreases-choose g l = length l.aborted.now + length l.committed.now
