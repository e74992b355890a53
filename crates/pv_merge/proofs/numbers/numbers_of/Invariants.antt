-- The numbers so far, and those of the moments that are left.
use Rattle.std.proofs.Common.{◌≡◌, ◌≤◌, ◌*◌, ◌^◌, ◌++◌, All, drop, map}
use Rattle.pv_merge.proofs.numbers.numbers_of.Given as goal
use Rattle.pv_merge.specs.Moments.{moment_of}
use Rattle.pv_merge.specs.Numbers.{numbers_from}

abbrev pub invariant-loop-moment : goal.invariant-loop-moment
invariant-loop-moment l = record {
  numbers : l.numbers.items ++ numbers_from l.sent (drop l.moment-index (map moment_of l.moments)) ≡ numbers_from 0 (map moment_of l.moments);
  sent : l.sent ≤ 2 ^ 32 * l.moment-index;
  small : All (λ number. number ≤ 2 ^ 60) l.numbers.items;
}
