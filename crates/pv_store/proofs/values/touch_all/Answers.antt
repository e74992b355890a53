-- One transaction after another.
use Rattle.pv_store.proofs.TouchedLemmas.{touch-next}
use Rattle.pv_store.proofs.values.touch_all.Goals as goal

pub touch-requires : goal.touch-requires
touch-requires c = c.loop-txn.invariant.more _ _ (c.requires c.loop-txn.txn-index _ c.loop-txn-test.true)

pub loop-txn-preserved : goal.loop-txn-preserved
loop-txn-preserved c = record {
  more = λ other there is. c.touch.ensures.more other there (c.loop-txn.invariant.more other there is);
  touched = touch-next c.args.txns.now c.loop-txn.txn-index _ c.loop-txn-test.true c.args.item.0 c.args.dependents.now.touched c.loop-txn.dependents.touched c.touch.new.self.touched
      c.loop-txn.invariant.touched c.touch.ensures.touched;
}
