-- The outputs so far are found.
use Rattle.pv_outbox.specs.Covers.{CoversBelow}
use Rattle.pv_outbox.proofs.memory.queue_of.Given as goal

abbrev pub invariant-loop-place : goal.invariant-loop-place
invariant-loop-place l = CoversBelow l.place l.facts.state l.queue
