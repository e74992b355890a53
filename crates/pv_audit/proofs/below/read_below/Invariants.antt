-- The lines so far came next, and are read.
use Rattle.std.proofs.Common.{◌≡◌, ℕ, List, ◌++◌, length, map}
use Rattle.pv_audit.specs.Reading.{AreRead, printed_at}
use Rattle.pv_model.specs.Text.{TextLine}
use Rattle.pv_script.specs.LineView.{line_of}
use Rattle.pv_audit.proofs.below.read_below.Given as goal

abbrev pub invariant-loop-line : goal.invariant-loop-line
invariant-loop-line l =
    ((lines : List (ℕ × TextLine)) × (l.fn.entries.numbered ≡ map printed_at lines ++ l.entries.numbered)
    × AreRead l.catalog lines (map line_of l.below.lines.items) l.below.broken l.below.more)
    × (l.entries.after_last ≡ l.fn.entries.after_last)

abbrev pub decreases-loop-line : goal.decreases-loop-line
decreases-loop-line l = length l.entries.numbered
