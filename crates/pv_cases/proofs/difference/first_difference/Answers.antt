-- What `first_difference` owes.
use Rattle.std.proofs.Common.{arith}
use Rattle.pv_cases.proofs.DifferenceLemmas.{same-everywhere, same-before}
use Rattle.pv_cases.proofs.difference.first_difference.Goals as goal

pub returns-then-not-are_same_at : goal.returns-then-not-are_same_at
returns-then-not-are_same_at g c = record {
  equal = same-before c.loop-place.place c.args.cases.now c.args.others.now c.loop-place.invariant;
  differ = c.if-not-are_same_at.ensures;
}

pub returns : goal.returns
returns g c =
    same-everywhere c.loop-place.place c.args.cases.now c.args.others.now (omega (arith, c.max-longest.ensures)) (omega (arith, c.max-longest.ensures)) c.loop-place.invariant
