-- One transaction after another.
use Rattle.pv_store.proofs.TouchedLemmas.{leave-next}
use Rattle.pv_store.proofs.values.leave_all.Goals as goal

pub loop-txn-preserved : goal.loop-txn-preserved
loop-txn-preserved c = record {
  more = λ other there is. c.leave.ensures.more other there (c.loop-txn.invariant.more other there is);
  touched = leave-next c.args.txns.now c.loop-txn.txn-index _ c.loop-txn-test.true c.args.item.0 c.args.dependents.now.touched c.loop-txn.dependents.touched c.leave.new.self.touched
      c.loop-txn.invariant.touched c.leave.ensures.touched;
}
