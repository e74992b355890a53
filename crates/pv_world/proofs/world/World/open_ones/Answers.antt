-- One more of the order is told where it is open.
use Rattle.std.proofs.Common.{sym, ap, ◌∙◌}
use Rattle.pv_world.proofs.OrderLemmas.{passes-next, fails-next}
use Rattle.pv_world.specs.OpenWith.{is_open_with}
use Rattle.pv_world.specs.Stands.{placed_of}
use Rattle.pv_world.specs.declared.order.Placed.{Placed}
use Rattle.pv_world.proofs.world.World.open_ones.Goals as goal
use Rattle.pv_world.proofs.world.World.open_ones.Goals.{then-is_open+in_ok-push, else-is_open}

pub loop-placed-preserved : goal.loop-placed-preserved
loop-placed-preserved c = λ is stands one ordered.
    let tested = sym (c.is_open.ensures is stands one ordered) in
    elim c.if-is_open.branch [
      | then-is_open+in_ok-push w ↦
          passes-next (λ (placed : Placed). is_open_with is (placed_of placed)) (λ (placed : Placed). placed.txn) _ _ _ c.loop-placed-test.true c.placed-item.is _ _ _
          (c.loop-placed.invariant is stands one ordered) (tested ∙ w.if-is_open.true) (ap (λ (v : _). v.items) w.txns-is ∙ w.in_ok-push.ensures.items)
      | else-is_open w ↦
          fails-next (λ (placed : Placed). is_open_with is (placed_of placed)) (λ (placed : Placed). placed.txn) _ _ _ c.loop-placed-test.true c.placed-item.is _ _ _
          (c.loop-placed.invariant is stands one ordered) (tested ∙ w.if-is_open.false) (ap (λ (v : _). v.items) w.txns-is)
    ]
