-- With what is left of the history the moments are what they are to be.
use Rattle.std.proofs.Common.{◌≡◌, ◌≢◌, ◌++◌, ◌∷◌, List, All, drop, map}
use Rattle.pv_base.specs.Catalog.{Declared}
use Rattle.pv_history.specs.Entries.{stamps_of}
use Rattle.pv_law_histories.specs.Merge as model
use Rattle.pv_law_histories.specs.Merge.{AreInOrder, with_history}
use Rattle.pv_merge.proofs.merging.push_before.Given as goal
use Rattle.pv_merge.specs.Moments.{ArePlanned, AreMomentsPlanned, moment_of}

abbrev pub invariant-loop-at : goal.invariant-loop-at
invariant-loop-at l = record {
  moments : (later : List model.Moment) → AreInOrder (moment_of l.other ∷ later) → All (λ moment. moment.site ≢ l.site.0) later →
      map moment_of l.merged.items ++ with_history l.site.0 (drop l.at (stamps_of l.history)) (moment_of l.other ∷ later)
      ≡ map moment_of l.fn.merged.items ++ with_history l.site.0 (drop l.from (stamps_of l.history)) (moment_of l.other ∷ later);
  planned : (catalog : Declared) → ArePlanned catalog l.history → AreMomentsPlanned catalog l.fn.merged.items → AreMomentsPlanned catalog l.merged.items;
}
