-- One more item is the same.
use Rattle.std.proofs.Common.{◌≡◌, ℕ, take, sym, subst, add-one}
use Rattle.pv_script.proofs.SameLemmas.{take-next}
use Rattle.pv_script.proofs.same.has_same_items.Goals as goal

pub loop-item-preserved : goal.loop-item-preserved
loop-item-preserved c =
    let xs = c.args.one.now.items in
    let ys = c.args.other.now.items in
    subst (λ (n : ℕ). take n xs ≡ take n ys) (sym (add-one c.loop-item.item))
    (take-next xs ys c.loop-item.item c.loop-item.invariant (c.is_same_item.ensures.0 c.if-not-is_same_item.false))
