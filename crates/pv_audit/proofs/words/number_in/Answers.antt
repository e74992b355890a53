-- A greater number isn't printed so.
use Rattle.std.proofs.Common.{sym, ◌∙◌, arith}
use Rattle.pv_audit.proofs.NumberLemmas.{one-long}
use Rattle.pv_audit.proofs.words.number_in.Goals as goal

pub returns-then-number-most-clause-none : goal.returns-then-number-most-clause-none
returns-then-number-most-clause-none c = λ n small is.
    let same = one-long c.in_ok-number.number n c.in_ok-number.ensures.within (omega (arith, small, c.ranges.most.fits)) (sym c.in_ok-number.ensures.number ∙ is) in
    omega (arith, same, small, c.if-number-most.true)
