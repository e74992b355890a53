use Rattle.std.proofs.Common.{◌-◌, length}
use Rattle.pv_base.specs.declared.limits.TheConstants.{HELD_NAMES}
use Rattle.pv_tree.proofs.nodes.Nodes.+read.Given as goal

abbrev pub decreases-read : goal.decreases-read
decreases-read g l = HELD_NAMES - length l.way.now.items
