-- The lines passed so far and those that are left are all.
use Rattle.std.proofs.Common.{◌≡◌, ◌+◌, ◌≤◌, length}
use Rattle.pv_model.specs.Text.{lines}
use Rattle.pv_script.specs.declared.lines.TheConstants.{MAX_SCHEDULE}
use Rattle.pv_audit.proofs.entries.Entries.after_last.Given as goal

abbrev pub invariant-loop-rest : goal.invariant-loop-rest
invariant-loop-rest l = (l.passed + length (lines l.rest) + 1 ≡ l.self.after_last) × (l.passed + length l.rest ≤ MAX_SCHEDULE)

abbrev pub decreases-loop-rest : goal.decreases-loop-rest
decreases-loop-rest l = length l.rest
