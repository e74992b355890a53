-- The outputs are found, and at each pass there is a candidate less.
use Rattle.std.proofs.Common.{length}
use Rattle.pv_outbox.specs.Covers.{Covers}
use Rattle.pv_outbox.proofs.queue.Queue.next.Given as goal

abbrev pub invariant-loop-place : goal.invariant-loop-place
invariant-loop-place l = Covers l.facts.state (record { candidates = l.self-inside.candidates; waiting = l.self-inside.waiting })

abbrev pub decreases-loop-place : goal.decreases-loop-place
decreases-loop-place l = length l.self-inside.candidates
