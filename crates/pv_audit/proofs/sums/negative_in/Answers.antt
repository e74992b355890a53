-- Behind a sign stands a number that isn't 0.
use Rattle.std.proofs.Common.{suc, arith}
use Rattle.pv_audit.proofs.SumLemmas.{next-small, read-next}
use Rattle.pv_audit.proofs.sums.negative_in.Goals as goal

pub returns-in_err-number-clause-none : goal.returns-in_err-number-clause-none
returns-in_err-number-clause-none c = rw c.from_residual.ensures (λ n small is. c.in_err-number.ensures.none (suc n) (next-small n small) is)

pub returns-then-number-eq0-clause-none : goal.returns-then-number-eq0-clause-none
returns-then-number-eq0-clause-none c = λ n small is.
    let same = read-next c.args.digits.now n c.in_ok-number.number c.in_ok-number.ensures.within c.in_ok-number.ensures.number small is in
    omega (arith, same, c.if-number-eq0.true)

pub returns-then-before-clause-none : goal.returns-then-before-clause-none
returns-then-before-clause-none c = λ n small is.
    let same = read-next c.args.digits.now n c.in_ok-number.number c.in_ok-number.ensures.within c.in_ok-number.ensures.number small is in
    omega (arith, same, small, c.if-before.true)
