-- The order of all cases is that of those from each place on.
use Rattle.std.proofs.Common.{◌-◌, ◌∙◌, ap, sym, arith}
use Rattle.pv_base.specs.Polyvalue.{Case}
use Rattle.pv_replay.proofs.OrderLemmas.{order_breaks, order_end, order_goes_on}
use Rattle.pv_replay.proofs.order.are_in_order.Goals as goal

pub returns-then-not-stands_before : goal.returns-then-not-stands_before
returns-then-not-stands_before c =
    order_breaks c.args.cases.now c.loop-place.place c.index-cases-place.result c.index-cases-place-in-loop-place.result c.deref.result.now c.deref-in-loop-place.result.now
    (omega arith) (omega arith) c.index-cases-place.is c.index-cases-place-in-loop-place.is
    (c.deref.ensures.value ∙ ap (λ (case : Case _). case.when) c.left.view_is)
    (c.deref-in-loop-place.ensures.value ∙ ap (λ (case : Case _). case.when) c.right.view_is)
    c.loop-place.invariant c.stands_before.result c.stands_before.ensures c.if-not-stands_before.true

pub loop-place-preserved : goal.loop-place-preserved
loop-place-preserved c =
    order_goes_on c.args.cases.now c.loop-place.place c.index-cases-place.result c.index-cases-place-in-loop-place.result c.deref.result.now c.deref-in-loop-place.result.now
    (omega arith) (omega arith) c.index-cases-place.is c.index-cases-place-in-loop-place.is
    (c.deref.ensures.value ∙ ap (λ (case : Case _). case.when) c.left.view_is)
    (c.deref-in-loop-place.ensures.value ∙ ap (λ (case : Case _). case.when) c.right.view_is)
    c.loop-place.invariant c.stands_before.result c.stands_before.ensures c.if-not-stands_before.false

pub returns : goal.returns
returns c = sym (order_end c.args.cases.now (c.loop-place.place - 1) (omega arith)) ∙ c.loop-place.invariant
