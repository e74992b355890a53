-- At the end all lines are passed.
use Rattle.std.proofs.Common.{ap, length, arith, eqb-true}
use Rattle.std.proofs.Common.{sym, ◌∙◌}
use Rattle.pv_script.proofs.LineLemmas.{lines-nil}
use Rattle.pv_script.proofs.lines.Lines.after_last.Goals as goal

pub returns : goal.returns
returns c =
    let none = lines-nil c.loop-rest.rest.now (eqb-true _ 0 (sym c.is_empty.ensures ∙ c.loop-rest-test.false)) in
    omega (arith, c.loop-rest.invariant.0, ap length none)
