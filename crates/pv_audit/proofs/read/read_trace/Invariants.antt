-- The text is read up to the entries that are left.
use Rattle.std.proofs.Common.{◌≡◌, ◌+◌, length, map}
use Rattle.pv_audit.specs.Views.{part_of}
use Rattle.pv_audit.proofs.PlanLemmas.{HavePlans}
use Rattle.pv_audit.proofs.ReadLemmas.{IsReadTo}
use Rattle.pv_model.specs.Text.{lines}
use Rattle.pv_script.specs.ReaderView.{IsLimitedReader, before_by}
use Rattle.pv_audit.proofs.read.read_trace.Given as goal

abbrev pub invariant-loop-entry : goal.invariant-loop-entry
invariant-loop-entry l =
    IsLimitedReader l.reader × IsReadTo l.text l.entries.numbered (before_by l.reader) (map part_of l.parts.items) × HavePlans (before_by l.reader) l.parts.items
    × (l.entries.after_last ≡ length (lines l.text) + 1)

abbrev pub decreases-loop-entry : goal.decreases-loop-entry
decreases-loop-entry l = length l.entries.numbered
