-- One output more is found.
use Rattle.pv_outbox.proofs.CoversLemmas.{covers-added, covers-none}
use Rattle.pv_outbox.proofs.memory.queue_of.Goals as goal

pub loop-place-init : goal.loop-place-init
loop-place-init c = covers-none c.args.facts.now.state c.new-queue.result

pub loop-place-preserved : goal.loop-place-preserved
loop-place-preserved c =
    covers-added c.args.facts.now.state c.loop-place.queue c.add.new.self c.loop-place.place c.condition.result.now c.condition.ensures c.add.ensures.more
    c.in_ok-add.ensures.candidate c.in_ok-add.ensures.waits c.loop-place.invariant
