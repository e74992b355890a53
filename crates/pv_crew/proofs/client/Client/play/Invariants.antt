use Rattle.std.proofs.Common.{◌≤◌, length}
use Rattle.pv_post.specs.Ends.{posted}
use Rattle.pv_crew.specs.Asking.{GoesOn}
use Rattle.pv_crew.proofs.client.Client.play.Given as goal

abbrev pub invariant-loop-self : goal.invariant-loop-self
invariant-loop-self g l = GoesOn l.fn.self l.self × (length (posted l.self.asks) ≤ length l.self.heard.items)

abbrev pub decreases-loop-self : goal.decreases-loop-self
decreases-loop-self g l = length l.self.left.items
