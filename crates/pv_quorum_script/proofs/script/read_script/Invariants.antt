-- The script is what the lines so far said and those that are left say.
use Rattle.std.proofs.Common.{◌≡◌, All, length}
use Rattle.pv_quorum_script.specs.Fits.{IsEventFor}
use Rattle.pv_quorum_script.specs.Script.{script_from, script_said}
use Rattle.pv_quorum_script.proofs.script.read_script.Given as goal

abbrev pub invariant-loop-line : goal.invariant-loop-line
invariant-loop-line l =
    (script_said l.fn.text ≡ script_from l.deciders l.events.items l.lines.numbered) × All (IsEventFor l.deciders) l.events.items

abbrev pub decreases-loop-line : goal.decreases-loop-line
decreases-loop-line l = length l.lines.numbered
