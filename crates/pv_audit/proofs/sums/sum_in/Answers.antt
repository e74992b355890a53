-- A sum with `-` is below 0.
use Rattle.pv_audit.proofs.SignLemmas.{minus-none}
use Rattle.pv_audit.proofs.sums.sum_in.Goals as goal

pub returns-in-Some-clause-none : goal.returns-in-Some-clause-none
returns-in-Some-clause-none c = minus-none c.args.word.now c.in-Some.digits.now c.negative_in.result c.in-Some.ensures.some c.negative_in.ensures.none
