-- The items part by part, and then in order, are the program's.
use Rattle.std.proofs.Common.{ap, ◌∙◌}
use Rattle.std.proofs.lemmas.List.{take_all}
use Rattle.std.proofs.lemmas.List.Filters.{dedup_is}
use Rattle.pv_audit.proofs.PlanReads.{planned, planned-more, sorted-items}
use Rattle.pv_model.specs.Check.{Part}
use Rattle.pv_audit.proofs.values.items_of.Goals as goal

pub loop-part-preserved : goal.loop-part-preserved
loop-part-preserved c =
    planned-more c.args.parts.now c.loop-part.part-index c.part-item.result c.loop-part.items.items c.push_items.new.items.items c.deref.result.now
    c.loop-part-test.true c.part-item.is (c.deref.ensures.value ∙ ap (λ (part : Part). part.wants) c.part.view_is) c.loop-part.invariant c.in_ok-push_items.ensures

pub returns : goal.returns
returns c = λ program items plan.
    sorted-items program items c.args.parts.now c.loop-part.items.items c.sort_unstable.new.self.items c.dedup.new.self.items plan
    (c.loop-part.invariant ∙ ap planned (take_all c.loop-part.part-index c.args.parts.now c.loop-part-test.false))
    c.sort_unstable.ensures.permutation c.sort_unstable.ensures.sorted (dedup_is _ _ _ c.dedup.ensures.filtered)
