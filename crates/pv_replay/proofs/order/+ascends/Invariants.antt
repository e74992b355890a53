-- The condition gets shorter.
use Rattle.std.proofs.Common.{length}
use Rattle.pv_replay.proofs.order.+ascends.Given as goal

abbrev pub decreases-ascends : goal.decreases-ascends
decreases-ascends l = length l.when.now
