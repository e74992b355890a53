-- The sums are those of the values so far.
use Rattle.std.proofs.Common.{◌≡◌, ◌*◌, ◌^◌, take}
use Rattle.std.specs.Prelude.{map}
use Rattle.pv_base.specs.Assignment.{assignments}
use Rattle.pv_model.specs.PossibleAnswers.{sum_at}
use Rattle.pv_query.specs.Sums.{totals, AreWithin}
use Rattle.pv_query.proofs.adding.sums_over.Given as goal

abbrev pub invariant-loop-value : goal.invariant-loop-value
invariant-loop-value l = record {
  sums : totals l.sums ≡ map (sum_at (take l.value-index l.values)) (assignments l.txns);
  within : AreWithin (l.value-index * 2 ^ 63) l.sums;
}
