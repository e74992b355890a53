use Rattle.std.proofs.Common.{◌+◌, length}
use Rattle.pv_poly.proofs.tree.Tree.+settle.Given as goal

abbrev pub decreases-settle : goal.decreases-settle
decreases-settle g l = length l.self.now + length l.literals.now
