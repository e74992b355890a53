-- What is read from what is left is read from all behind the events so far, and what is at fault there is so in the text.
use Rattle.std.proofs.Common.{◌≡◌, ℕ, false, List, [], ◌++◌, length, map, All}
use Rattle.pv_model.specs.LineCauses.{Before, at_first, LineCause}
use Rattle.pv_model.specs.Events as model
use Rattle.pv_model.specs.FirstMisplaced.{without_numbers}
use Rattle.pv_model.specs.LineForms.{scheduled}
use Rattle.pv_model.specs.Schedule.{AreLines, significant, IsAtFault}
use Rattle.pv_script.specs.Said.{before_of, IsLimited}
use Rattle.pv_script.specs.ScheduleView.{event_of, HasPlan}
use Rattle.pv_script.proofs.FaultLemmas.{IsAtFaultFrom}
use Rattle.pv_script.proofs.read.read_lines.Given as goal

abbrev pub invariant-loop-line : goal.invariant-loop-line
invariant-loop-line l =
    IsLimited l.said
    × ((more : List model.Event) (last : Before) → AreLines (before_of l.said) (without_numbers l.lines.numbered) more last
    → AreLines (at_first scheduled) (significant l.text) (map event_of l.events.items ++ more) last)
    × ((number : ℕ) (cause : LineCause) → IsAtFaultFrom (before_of l.said) l.lines.numbered number cause → IsAtFault scheduled l.text number cause)
    × All (HasPlan l.said.catalog) l.events.items
    × (l.said.begun ≡ false → l.events.items ≡ [])

abbrev pub decreases-loop-line : goal.decreases-loop-line
decreases-loop-line l = length l.lines.numbered
