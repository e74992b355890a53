-- With what is left the moments are what they are to be.
use Rattle.std.proofs.Common.{◌≡◌, ◌++◌, [], drop, map}
use Rattle.pv_base.specs.Catalog.{Declared}
use Rattle.pv_history.specs.Entries.{stamps_of}
use Rattle.pv_law_histories.specs.Merge.{with_history}
use Rattle.pv_merge.proofs.merging.push_rest.Given as goal
use Rattle.pv_merge.specs.Moments.{ArePlanned, AreMomentsPlanned, moment_of}

abbrev pub invariant-loop-at : goal.invariant-loop-at
invariant-loop-at l = record {
  moments : map moment_of l.merged.items ++ with_history l.site.0 (drop l.at (stamps_of l.history)) []
      ≡ map moment_of l.fn.merged.items ++ with_history l.site.0 (drop l.from (stamps_of l.history)) [];
  planned : (catalog : Declared) → ArePlanned catalog l.history → AreMomentsPlanned catalog l.fn.merged.items → AreMomentsPlanned catalog l.merged.items;
}
