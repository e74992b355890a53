-- The events and the lines so far, and those of the moments that are left.
use Rattle.std.proofs.Common.{◌≡◌, ◌++◌, All, drop, map}
use Rattle.std.specs.Prelude.{flat_map}
use Rattle.pv_base.specs.Catalog.{Declared}
use Rattle.pv_law_histories.specs.Merge.{events_at, events_of_merge, lines_at, lines_of_merge}
use Rattle.pv_merge.proofs.run.told.Given as goal
use Rattle.pv_merge.specs.Moments.{AreMomentsPlanned, moment_of}
use Rattle.pv_script.specs.LineView.{line_of}
use Rattle.pv_script.specs.ScheduleView.{HasPlan, event_of}

abbrev pub invariant-loop-moment : goal.invariant-loop-moment
invariant-loop-moment l = record {
  events : map event_of l.events.items ++ flat_map (events_at (map moment_of l.moments)) (drop l.moment-index (map moment_of l.moments))
      ≡ events_of_merge (map moment_of l.moments);
  lines : map line_of l.lines.items ++ flat_map lines_at (drop l.moment-index (map moment_of l.moments)) ≡ lines_of_merge (map moment_of l.moments);
  plans : (catalog : Declared) → AreMomentsPlanned catalog l.moments → All (HasPlan catalog) l.events.items;
}
