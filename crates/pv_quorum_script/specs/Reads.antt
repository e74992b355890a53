-- What reading a script answers.
use Rattle.std.specs.Prelude.{◌≡◌, ℕ, List, Result, Ok, Err, ⊤}
use Rattle.pv_lines.specs.declared.cause.LineFault.{LineFault}
use Rattle.pv_lines.specs.declared.cause.LineFault.TheVariants as fault
use Rattle.pv_quorum_script.specs.Script.{Script, script_said}
use Rattle.pv_quorum_script.specs.declared.event.QuorumScript.{QuorumScript}
use Rattle.pv_quorum_script.specs.declared.script.QuorumScriptError.{QuorumScriptError}
use Rattle.pv_quorum_script.specs.declared.script.QuorumScriptError.TheVariants.{Malformed, NoMemory}

-- the script as plain data
abbrev pub plain : QuorumScript → Script
plain script = record { deciders = script.deciders; events = script.events.items }

-- the refusal of the line of this number
abbrev pub error_at : ℕ → LineFault → QuorumScriptError
error_at line (fault.At cause) = Malformed line cause
error_at line fault.NoMemory = NoMemory

-- The script that the text is, or its first line at fault. Out of memory may come in place of either.
abbrev pub Reads : List ℕ → Result QuorumScript QuorumScriptError → Type 0
Reads text (Ok script) = script_said text ≡ Ok (plain script)
Reads text (Err (Malformed line cause)) = script_said text ≡ Err (record { line = line; cause = cause })
Reads text (Err NoMemory) = ⊤
