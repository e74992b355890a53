-- The first condition gets shorter.
use Rattle.std.proofs.Common.{length}
use Rattle.pv_replay.proofs.order.+stands_before.Given as goal

abbrev pub decreases-stands_before : goal.decreases-stands_before
decreases-stands_before l = length l.left.now
