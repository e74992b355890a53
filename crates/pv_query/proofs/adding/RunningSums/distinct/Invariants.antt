-- The sums so far, and those that are left to come, are the whole sums without repeats.
use Rattle.std.proofs.Common.{◌≡◌, drop}
use Rattle.std.specs.Prelude.{◌++◌, ◌+ℤ◌, map}
use Rattle.std.specs.Ordering.{int_eq}
use Rattle.pv_model.specs.PossibleAnswers.{without_repeats}
use Rattle.pv_query.specs.Sums.{totals}
use Rattle.pv_query.proofs.RepeatLemmas.{left_of}
use Rattle.pv_query.proofs.adding.RunningSums.distinct.Given as goal

abbrev pub invariant-loop-sum : goal.invariant-loop-sum
invariant-loop-sum l =
    (l.found ++ left_of int_eq l.found (map (λ z. l.self.sure +ℤ z) (drop l.sum-index l.sum-items))) ≡ without_repeats int_eq (totals l.self)
