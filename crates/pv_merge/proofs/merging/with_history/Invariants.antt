-- With what is left of the history among those moments that are left, the moments are what they are to be.
use Rattle.std.proofs.Common.{◌≡◌, ◌≢◌, ◌≤◌, ◌++◌, All, drop, length, map}
use Rattle.pv_base.specs.Catalog.{Declared}
use Rattle.pv_history.specs.Entries.{stamps_of}
use Rattle.pv_law_histories.specs.Merge.{AreInOrder, with_history}
use Rattle.pv_merge.proofs.merging.with_history.Given as goal
use Rattle.pv_merge.specs.Moments.{ArePlanned, AreMomentsPlanned, moment_of}

abbrev pub invariant-loop-other : goal.invariant-loop-other
invariant-loop-other l = record {
  within : l.next ≤ length l.history;
  moments : map moment_of l.merged.items ++ with_history l.site.0 (drop l.next (stamps_of l.history)) (drop l.other-index (map moment_of l.others))
      ≡ with_history l.site.0 (stamps_of l.history) (map moment_of l.others);
  order : AreInOrder (drop l.other-index (map moment_of l.others));
  apart : All (λ moment. moment.site ≢ l.site.0) (drop l.other-index (map moment_of l.others));
  planned : (catalog : Declared) → ArePlanned catalog l.history → AreMomentsPlanned catalog l.others → AreMomentsPlanned catalog l.merged.items;
}
