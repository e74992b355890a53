-- One case after another, each with 256 literals at most.
use Rattle.std.proofs.Common.{ℤ, length, ap, arith}
use Rattle.pv_base.specs.Polyvalue.{Case}
use Rattle.pv_cases.proofs.CountedLiterals.{literals-next, literals-end}
use Rattle.pv_tree_tests.proofs.tests.are_few.Goals as goal

pub loop-case-preserved : goal.loop-case-preserved
loop-case-preserved c =
    let inside = ap (λ (case : Case ℤ). length case.when) c.case.view_is in (
      literals-next c.args.cases.now c.loop-case.case-index c.loop-case.literals c.len-in-loop-case.result _ c.case-item.result c.loop-case-test.true c.case-item.is
          (omega (arith, inside, c.len-in-loop-case.ensures, c.case.inside.when.ok.0)) c.loop-case.invariant.0,
      omega (arith, c.loop-case.invariant.1, c.len-in-loop-case.ensures, c.len.ensures, c.if-len-gt256.false),
    )

pub returns : goal.returns
returns c = λ _.
    let all = literals-end c.args.cases.now c.loop-case.case-index c.loop-case.literals _ c.loop-case-test.false c.loop-case.invariant.0 in (
      omega (arith, c.if-cases-gt256.false),
      omega (arith, all, c.loop-case.invariant.1, c.loop-case.auto.case-index-end, c.if-cases-gt256.false),
    )
