-- The messages so far are those to the deciders looked at.
use Rattle.std.proofs.Common.{◌≡◌, map}
use Rattle.pv_law_quorum.specs.Decider as rules
use Rattle.pv_quorum.specs.Values.{message_of, outgoing_of}
use Rattle.pv_quorum.proofs.made.to_others.Given as goal

abbrev pub invariant-loop-to : goal.invariant-loop-to
invariant-loop-to l = map outgoing_of l.sends.items ≡ rules.to_others l.to l.me (message_of l.message)
