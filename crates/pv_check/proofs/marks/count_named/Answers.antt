-- The items are as many as the wants that the marks stand for.
use Rattle.std.proofs.Common.{◌∙◌, arith}
use Rattle.pv_check.proofs.WantLemmas.{length-wants}
use Rattle.pv_check.proofs.marks.count_named.Goals as goal

pub returns : goal.returns
returns c = λ program are items them.
    c.loop-mark.invariant.0
    ∙ length-wants program c.args.marks.now c.loop-mark.mark-index items (omega (arith, c.loop-mark-test.false)) are them
