-- One sum after another is appended, unless it is there.
use Rattle.std.proofs.Common.{◌≡◌, ◌^◌, List, get_or, sym, subst}
use Rattle.std.specs.Prelude.{ℤ, pos, ◌+ℤ◌, All, IfOk}
use Rattle.std.specs.Ordering.{int_eq}
use Rattle.pv_law_polyvalues.proofs.ExistenceLemmas.{numbers-exact}
use Rattle.pv_model.specs.PossibleAnswers.{without_repeats}
use Rattle.pv_query.specs.Sums.{totals, IsWithin}
use Rattle.pv_query.proofs.RepeatLemmas.{left-start, left-step, left-end}
use Rattle.pv_query.proofs.SumLemmas.{whole-place, element-itself}
use Rattle.pv_query.proofs.adding.RunningSums.distinct.Goals as goal

pub loop-sum-init : goal.loop-sum-init
loop-sum-init c =
    left-start int_eq (λ z. c.args.self.now.sure +ℤ z) c.new-found.result c.deref-sum-items.result.now c.args.self.now.at_each.items
    c.new-found.ensures c.deref-sum-items.ensures.value

pub loop-sum-preserved : goal.loop-sum-preserved
loop-sum-preserved c =
    let items = c.deref-sum-items.result.now in
    let i = c.loop-sum.sum-index in
    let each = subst (All (IsWithin (2 ^ 100))) (sym c.deref-sum-items.ensures.value) c.requires.room.each in
    left-step int_eq numbers-exact.exact (λ z. c.args.self.now.sure +ℤ z) (without_repeats int_eq (totals c.args.self.now))
    c.loop-sum.found c.push.new.self items i (get_or items i (pos 0))
    _ c.loop-sum-test.true (element-itself items i (pos 0) c.loop-sum-test.true)
    (whole-place c.args.self.now.sure (get_or items i (pos 0)) c.requires.room.sure (each i (pos 0) c.loop-sum-test.true)) c.loop-sum.invariant c.in_ok-push.ensures

pub returns : goal.returns
returns c =
    subst (λ (sums : List ℤ). IfOk c.list.result (λ found. found.items ≡ sums))
    (left-end int_eq (λ z. c.args.self.now.sure +ℤ z) (without_repeats int_eq (totals c.args.self.now)) c.loop-sum.found
    c.deref-sum-items.result.now c.loop-sum.sum-index c.loop-sum-test.false c.loop-sum.invariant) c.list.ensures
