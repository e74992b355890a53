-- One more of the order is told where it is committed.
use Rattle.std.proofs.Common.{sym, ap, ◌∙◌}
use Rattle.pv_protocol.specs.Committed.{is_committed}
use Rattle.pv_world.proofs.OrderLemmas.{passes-next, fails-next}
use Rattle.pv_world.specs.declared.order.Placed.{Placed}
use Rattle.pv_world.proofs.world.World.committed.Goals as goal
use Rattle.pv_world.proofs.world.World.committed.Goals.{then-is_committed+in_ok-push, else-is_committed}

pub loop-placed-preserved : goal.loop-placed-preserved
loop-placed-preserved c = λ is stands one.
    let tested = sym (c.is_committed.ensures is stands one) in
    elim c.if-is_committed.branch [
      | then-is_committed+in_ok-push w ↦
          passes-next (λ (placed : Placed). is_committed is placed.txn) (λ (placed : Placed). placed.txn) _ _ _ c.loop-placed-test.true c.placed-item.is _ _ _
          (c.loop-placed.invariant is stands one) (tested ∙ w.if-is_committed.true) (ap (λ (v : _). v.items) w.txns-is ∙ w.in_ok-push.ensures.items)
      | else-is_committed w ↦
          fails-next (λ (placed : Placed). is_committed is placed.txn) (λ (placed : Placed). placed.txn) _ _ _ c.loop-placed-test.true c.placed-item.is _ _ _
          (c.loop-placed.invariant is stands one) (tested ∙ w.if-is_committed.false) (ap (λ (v : _). v.items) w.txns-is)
    ]
