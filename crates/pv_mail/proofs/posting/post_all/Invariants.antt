-- The messages before this place are posted, and these are left.
use Rattle.pv_mail.proofs.PostingLemmas.{Passes}
use Rattle.pv_mail.proofs.posting.post_all.Given as goal

abbrev pub invariant-loop-outgoing : goal.invariant-loop-outgoing
invariant-loop-outgoing l = Passes l.fn.from.0 l.fn.stamp l.fn.sends.items l.outgoing-iterator.rest.items l.place l.fn.outs.items l.outs.items
