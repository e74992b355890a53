-- How the command ends.
use Rattle.std.specs.Prelude.{◌≡◌, ℕ, List, Result, Ok, Err}
use Rattle.pv_base.specs.declared.limits.TheConstants.{MAX_JOURNAL}
use Rattle.pv_commands.specs.Ends.{EndsScript}
use Rattle.pv_io.specs.declared.read_end.ReadEnd.{ReadEnd}
use Rattle.pv_io.specs.declared.sink.Sink as sinks
use Rattle.pv_io.specs.declared.source.Source as sources
use Rattle.pv_law_decisions.specs.Lines.{Line, lines_text}
use Rattle.pv_law_decisions.specs.Promises.{KeepsPromises}
use Rattle.pv_law_decisions.specs.Runs.{Runs}
use Rattle.pv_law_decisions.specs.Scene.{Scene, at_first}
use Rattle.pv_law_quorum.specs.Decider.{Setup}
use Rattle.pv_lines.specs.Refusals.{refusal_text}
use Rattle.pv_lines.specs.declared.end.ScriptEnd.{ScriptEnd}
use Rattle.pv_lines.specs.declared.end.ScriptEnd.TheVariants.{Done, Malformed}
use Rattle.pv_quorum.specs.DeciderState.{setup_of}
use Rattle.pv_quorum_script.specs.Script.{Script, Refused, script_said}

-- what is fixed for the deciders of a script: each log may have the greatest length
abbrev pub setup_by : Script → Setup
setup_by script = setup_of script.deciders MAX_JOURNAL

-- The text is exactly the lines of the script's run.
abbrev pub IsOutput : Script → List ℕ → Type 0
IsOutput script text =
    (lines : List Line) × (last : Scene) × Runs (setup_by script) (at_first (setup_by script)) script.events lines last × (text ≡ lines_text lines)

-- What is answered to an input: the lines of its run where it is a script, and else its first line at fault and why.
abbrev pub IsAnswer : List ℕ → ScriptEnd → List ℕ → Type 0
IsAnswer input Done output = (script : Script) × (script_said input ≡ Ok script) × IsOutput script output
IsAnswer input Malformed output = (refused : Refused) × (script_said input ≡ Err refused) × (output ≡ refusal_text refused.line refused.cause)
IsAnswer input _ output = ⊥

module _ {R W : Type 0} (source : sources.Ghosts R) (sink : sinks.Ghosts W) (unread left : R) (before after : W) (ended : Result ScriptEnd ReadEnd) where
  pub record EndsQuorum : Type 0 where
    -- Whatever script an input is, and in whatever writes and syncs its deciders stop or fail, its run keeps the promises.
    pub promises : (input : List ℕ) (script : Script) → script_said input ≡ Ok script → KeepsPromises (setup_by script) script.events
    -- What was read is answered so.
    pub ends : EndsScript source sink IsAnswer unread left before after ended
