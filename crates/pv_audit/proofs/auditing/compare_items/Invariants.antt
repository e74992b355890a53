-- The lines so far agree, whichever report they are of.
use Rattle.std.proofs.Common.{◌≡◌, None, length, map, take}
use Rattle.std.specs.Prelude.{All}
use Rattle.pv_audit.specs.Differences.{IsItemOf, LineIsFine}
use Rattle.pv_audit.specs.Reports.{Report, misplaced, order_of}
use Rattle.pv_audit.specs.ToldView.{AreOutcomesIn}
use Rattle.pv_audit.specs.Values.{AreAllValuesAfter}
use Rattle.pv_base.specs.Catalog.{Declared}
use Rattle.pv_script.specs.LineView.{line_of}
use Rattle.pv_audit.proofs.auditing.compare_items.Given as goal

abbrev pub invariant-loop-line : goal.invariant-loop-line
invariant-loop-line l =
    (catalog : Declared) (told : Report) → AreOutcomesIn l.outcomes told → misplaced told ≡ None → AreAllValuesAfter catalog told (order_of told) l.values
    → All (IsItemOf (length catalog.items)) told.items → map line_of l.lines ≡ told.items → All (LineIsFine catalog told) (map line_of (take l.line-index l.lines))
