-- The histories of the sites from this one on are merged.
use Rattle.std.proofs.Common.{◌≡◌, ◌≤◌, All, drop, map}
use Rattle.pv_base.specs.Catalog.{Declared}
use Rattle.pv_law_histories.specs.Merge.{merge_from}
use Rattle.pv_merge.proofs.merging.in_order.Given as goal
use Rattle.pv_merge.specs.Moments.{ArePlanned, AreMomentsPlanned, histories_of, moment_of}

abbrev pub invariant-loop-site : goal.invariant-loop-site
invariant-loop-site l = record {
  within : l.site ≤ l.sites;
  moments : map moment_of l.moments.items ≡ merge_from l.site (drop l.site (histories_of l.histories));
  planned : (catalog : Declared) → All (λ history. ArePlanned catalog history.items) l.histories → AreMomentsPlanned catalog l.moments.items;
}

abbrev pub decreases-loop-site : goal.decreases-loop-site
decreases-loop-site l = l.site
