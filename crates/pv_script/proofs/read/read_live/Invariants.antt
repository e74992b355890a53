-- What is read from what is left is read from all, and what is at fault there is so in the text.
use Rattle.std.proofs.Common.{ℕ, [], length}
use Rattle.pv_model.specs.LineCauses.{Before, LineCause, at_first}
use Rattle.pv_model.specs.FirstMisplaced.{without_numbers}
use Rattle.pv_model.specs.LineForms.{live}
use Rattle.pv_model.specs.Schedule.{AreLines, significant, IsAtFault}
use Rattle.pv_script.specs.LiveSaid.{before_of_live, IsSound}
use Rattle.pv_script.proofs.FaultLemmas.{IsAtFaultFrom}
use Rattle.pv_script.proofs.read.read_live.Given as goal

abbrev pub invariant-loop-line : goal.invariant-loop-line
invariant-loop-line l =
    IsSound l.live
    × ((last : Before) → AreLines (before_of_live l.live) (without_numbers l.lines.numbered) [] last → AreLines (at_first live) (significant l.text) [] last)
    × ((number : ℕ) (cause : LineCause) → IsAtFaultFrom (before_of_live l.live) l.lines.numbered number cause → IsAtFault live l.text number cause)

abbrev pub decreases-loop-line : goal.decreases-loop-line
decreases-loop-line l = length l.lines.numbered
