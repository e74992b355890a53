use Rattle.std.proofs.Common.{◌∙◌, ◌+◌, ◌-◌, length, ap, arith}
use Rattle.std.specs.Prelude.{◌&&◌}
use Rattle.pv_check.proofs.FitLemmas.{covered-more}
use Rattle.pv_check.proofs.fitting.are_covered.Goals as goal
use Rattle.pv_check.specs.Fits.{are_covered}

pub loop-number-preserved : goal.loop-number-preserved
loop-number-preserved c =
    let items = c.args.catalog.now.items in
    let number = c.loop-number.number in
    c.loop-number.invariant
    ∙ covered-more items c.args.marks.now c.args.parts.now number (omega (arith, c.loop-number-test.true, c.len-number-end.ensures.count))
    ∙ c.is_covered.ensures (length items - (number + 1))
    ∙ ap (λ b. b && are_covered items c.args.marks.now c.args.parts.now (number + 1) (length items - (number + 1))) c.if-not-is_covered.false
