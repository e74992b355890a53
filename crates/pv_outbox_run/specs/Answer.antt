-- What the command answers to its input.
use Rattle.std.specs.Prelude.{◌≡◌, ℕ, List, Result}
use Rattle.pv_commands.specs.Ends.{EndsScript}
use Rattle.pv_io.specs.declared.read_end.ReadEnd.{ReadEnd}
use Rattle.pv_io.specs.declared.sink.Sink as sinks
use Rattle.pv_io.specs.declared.source.Source as sources
use Rattle.pv_lines.specs.Refusals.{refusal_text}
use Rattle.pv_lines.specs.declared.cause.Cause.{Cause}
use Rattle.pv_lines.specs.declared.end.ScriptEnd.{ScriptEnd}
use Rattle.pv_lines.specs.declared.end.ScriptEnd.TheVariants.{Done, Malformed}
use Rattle.pv_outbox_run.specs.Box.{Box, first_box}
use Rattle.pv_outbox_run.specs.Does.{Runs}
use Rattle.pv_outbox_run.specs.Outputs.{AreOnce, KeepsOutputs}
use Rattle.pv_outbox_run.specs.ToldText.{told_texts}
use Rattle.pv_outbox_run.specs.declared.told.Told.{Told}
use Rattle.pv_outbox_script.specs.Script.{IsRefused, IsScript}
use Rattle.pv_outbox_script.specs.declared.event.Event.{Event}

-- The text is what these events print, from the beginning on, and no output is released twice in it.
abbrev pub IsPrintedBy : List Event → List ℕ → Type 0
IsPrintedBy events text = (says : List Told) × (last : Box) × Runs first_box events says last × (text ≡ told_texts says) × AreOnce says

-- To a script it is exactly the lines of its events; to another text it is the first line at fault and why.
abbrev pub IsAnswer : List ℕ → ScriptEnd → List ℕ → Type 0
IsAnswer input Done answer = (events : List Event) × IsScript input events × IsPrintedBy events answer
IsAnswer input Malformed answer = (number : ℕ) × (cause : Cause) × IsRefused input number cause × (answer ≡ refusal_text number cause)
IsAnswer input _ answer = ⊥

-- Every run keeps what is promised of outputs, and the command read its input and ended by that.
module _ {R W : Type 0} (source : sources.Ghosts R) (sink : sinks.Ghosts W) (unread left : R) (before after : W) (ended : Result ScriptEnd ReadEnd) where
  abbrev pub EndsOutbox : Type 0
  EndsOutbox = KeepsOutputs × EndsScript source sink IsAnswer unread left before after ended
