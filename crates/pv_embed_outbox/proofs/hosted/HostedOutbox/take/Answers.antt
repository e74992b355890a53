-- What is left was no longer than the log.
use Rattle.pv_embed_outbox.proofs.ReleaseLemmas.{no_longer_left}
use Rattle.pv_embed_outbox.proofs.hosted.HostedOutbox.take.Goals as goal

pub invariant_of-self : goal.invariant_of-self
invariant_of-self c = record {
  up = c.self.invariant.up;
  usable = c.self.invariant.usable;
  no_longer = no_longer_left _ _ c.self.inside.released.items c.take_first.new.queue.items c.take_first.result c.take_first.ensures c.self.invariant.no_longer;
}
