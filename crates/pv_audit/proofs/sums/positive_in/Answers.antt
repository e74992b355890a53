-- A number that isn't below 0.
use Rattle.std.proofs.Common.{arith}
use Rattle.pv_audit.proofs.SumLemmas.{read-small}
use Rattle.pv_audit.proofs.sums.positive_in.Goals as goal

pub returns-then-number-clause-none : goal.returns-then-number-clause-none
returns-then-number-clause-none c = λ n small is.
    let bound = read-small c.args.word.now n c.in_ok-number.number c.in_ok-number.ensures.within c.in_ok-number.ensures.number small is in
    omega (arith, bound, c.if-number.true)
