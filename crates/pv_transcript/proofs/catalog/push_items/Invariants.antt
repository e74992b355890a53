-- The lines so far, and those of the items left, are all, behind what was there.
use Rattle.std.proofs.Common.{◌≡◌, ◌++◌, drop}
use Rattle.std.specs.Prelude.{flat_map}
use Rattle.pv_report.specs.StillHeld.{StillHeld}
use Rattle.pv_transcript.specs.ScheduleText.{item_line}
use Rattle.pv_transcript.proofs.catalog.push_items.Given as goal

abbrev pub invariant-loop-number : goal.invariant-loop-number
invariant-loop-number l = record {
  whole : l.fn.text.items ++ flat_map item_line l.catalog.items ≡ l.text.items ++ flat_map item_line (drop l.number l.catalog.items);
  held : StillHeld l.fn.text.items l.text.items;
}
