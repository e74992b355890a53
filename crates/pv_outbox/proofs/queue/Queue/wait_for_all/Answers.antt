-- The output waits for one transaction more.
use Rattle.pv_outbox.specs.Covers.{WaitsIfUnknown}
use Rattle.pv_outbox.proofs.CoversLemmas.{all-trans}
use Rattle.pv_outbox.proofs.ListLemmas.{each-more}
use Rattle.pv_outbox.proofs.queue.Queue.wait_for_all.Goals as goal

pub loop-txn-preserved : goal.loop-txn-preserved
loop-txn-preserved c = record {
  more = all-trans c.args.self.now c.loop-txn.self c.wait.new.self c.loop-txn.invariant.more c.wait.ensures.more;
  waits =
      each-more (WaitsIfUnknown c.args.facts.now.state c.wait.new.self c.args.place) c.args.txns.now c.loop-txn.txn-index _ c.loop-txn-test.true
      (λ k d below unknown. c.wait.ensures.more.waiting _ _ (c.loop-txn.invariant.waits k d below unknown)) c.in_ok-wait.ensures.waits;
}
