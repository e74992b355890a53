-- The first line counts, or is passed.
use Rattle.std.proofs.Common.{◌∙◌, sym, arith, eqb-true}
use Rattle.pv_run.proofs.SaidLemmas.{first-line-counts, first-line-skipped, significant-nil}
use Rattle.pv_run.proofs.said.next_line.Goals as goal

pub returns-then-is_significant-clause-some : goal.returns-then-is_significant-clause-some
returns-then-is_significant-clause-some c =
    c.loop-rest.invariant.0
    ∙ first-line-counts c.loop-rest.rest.now c.first_line.result.0.now c.first_line.result.1.now c.without_return-line.result.now c.is_significant.result
    c.first_line.ensures.first c.without_return-line.ensures.line c.is_significant.ensures c.if-is_significant.true

pub loop-rest-preserved : goal.loop-rest-preserved
loop-rest-preserved c = (
  c.loop-rest.invariant.0
      ∙ first-line-skipped c.loop-rest.rest.now c.first_line.result.0.now c.first_line.result.1.now c.without_return-line.result.now c.is_significant.result
      c.first_line.ensures.first c.without_return-line.ensures.line c.is_significant.ensures c.if-is_significant.false,
  omega (arith, c.first_line.ensures.shorter, c.loop-rest.invariant.1),
)

pub returns-clause-none : goal.returns-clause-none
returns-clause-none c = c.loop-rest.invariant.0 ∙ significant-nil c.loop-rest.rest.now (eqb-true _ 0 (sym c.is_empty.ensures ∙ c.loop-rest-test.false))
