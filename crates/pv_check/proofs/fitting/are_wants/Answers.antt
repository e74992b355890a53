use Rattle.std.proofs.Common.{◌∙◌, ◌+◌, ◌-◌, length, ap, sym, arith}
use Rattle.std.specs.Cmp.Lexicographic.{pointwise}
use Rattle.std.specs.List.{cons_option}
use Rattle.pv_check.proofs.FitLemmas.{between-more}
use Rattle.pv_check.proofs.fitting.are_wants.Goals as goal
use Rattle.pv_check.specs.Fits.{is_same_want, wants_between}

pub loop-number-preserved : goal.loop-number-preserved
loop-number-preserved c =
    let items = c.args.catalog.now.items in
    let number = c.loop-number.number in
    let after = wants_between items c.args.marks.now c.args.site.0 (number + 1) (length items - (number + 1)) in
    c.in-Some.ensures after
    ∙ ap (λ first. pointwise is_same_want c.loop-number.left.now (cons_option first after)) c.wanted_at.ensures
    ∙ ap (pointwise is_same_want c.loop-number.left.now)
    (sym (between-more items c.args.marks.now c.args.site.0 number (omega (arith, c.loop-number-test.true, c.len-number-end.ensures.count))))
    ∙ c.loop-number.invariant
