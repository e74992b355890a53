-- No line that is passed counts.
use Rattle.std.proofs.Common.{◌≡◌, ◌+◌, ◌≤◌, length}
use Rattle.pv_model.specs.Text.{significant_from, lines}
use Rattle.pv_script.specs.declared.lines.TheConstants.{MAX_SCHEDULE}
use Rattle.pv_lines.proofs.lines.Lines.next.Given as goal

abbrev pub invariant-loop-self : goal.invariant-loop-self
invariant-loop-self l =
    (significant_from (l.self-inside.passed + 1) (lines l.self-inside.rest.now) ≡ l.fn.self.numbered)
    × (l.self-inside.passed + length (lines l.self-inside.rest.now) + 1 ≡ l.fn.self.after_last)
    × (l.self-inside.passed + length l.self-inside.rest.now ≤ MAX_SCHEDULE)

abbrev pub decreases-loop-self : goal.decreases-loop-self
decreases-loop-self l = length l.self-inside.rest.now
