use Rattle.std.proofs.Common.{◌≡◌, ◌+◌, ◌<◌, length, vec_capacity}
use Rattle.pv_post.specs.Ends.{posted}
use Rattle.pv_crew.specs.Asking.{GoesOn}
use Rattle.pv_crew.proofs.client.Client.hear.Given as goal

abbrev pub invariant-loop-looks : goal.invariant-loop-looks
invariant-loop-looks g l =
    GoesOn l.fn.self l.self × (l.self.left ≡ l.fn.self.left)
    × (length l.self.heard.items + length l.self.left.items < vec_capacity l.self.heard)
    × (length l.self.heard.items < length (posted l.self.asks))
