-- What is read from what is left is read from all behind the events so far, and what is at fault there is so in the text.
use Rattle.std.proofs.Common.{ℕ, List, ◌++◌, length, All}
use Rattle.pv_lines.specs.declared.cause.Cause.{Cause}
use Rattle.pv_model.specs.Text.{numbered}
use Rattle.pv_outbox_script.specs.Held.{CanHappen}
use Rattle.pv_outbox_script.specs.Script.{AreEvents, IsFirstFault}
use Rattle.pv_outbox_script.specs.declared.event.Event.{Event}
use Rattle.pv_outbox_script.proofs.script.read_script.Given as goal

abbrev pub invariant-loop-line : goal.invariant-loop-line
invariant-loop-line l = record {
  read : (more : List Event) → AreEvents l.lines.numbered more → AreEvents (numbered l.text) (l.events.items ++ more);
  refused : (number : ℕ) (cause : Cause) → IsFirstFault l.lines.numbered number cause → IsFirstFault (numbered l.text) number cause;
  possible : All CanHappen l.events.items;
}

abbrev pub decreases-loop-line : goal.decreases-loop-line
decreases-loop-line l = length l.lines.numbered
