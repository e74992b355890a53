-- At the end no line is left.
use Rattle.std.proofs.Common.{◌+◌, ap, sym, ◌∙◌, eqb-true}
use Rattle.pv_lines.proofs.LineLemmas.{lines-nil}
use Rattle.pv_model.specs.Text.{significant_from}
use Rattle.pv_lines.proofs.lines.Lines.next.Goals as goal

pub returns-clause-none : goal.returns-clause-none
returns-clause-none c =
    let none = lines-nil c.loop-self.self-inside.rest.now (eqb-true _ 0 (sym c.is_empty.ensures ∙ c.loop-self-test.false)) in
    sym c.loop-self.invariant.0 ∙ ap (significant_from (c.loop-self.self-inside.passed + 1)) none
