-- The texts that are scripts, line by line, and the first line at fault of another text.
use Rattle.std.specs.Prelude.{◌≡◌, ◌⊎◌, ℕ, List, [], ◌∷◌, Result, Ok, Err, ⊤}
use Rattle.pv_model.specs.Text.{TextLine, numbered}
use Rattle.pv_lines.specs.Words.{words_said}
use Rattle.pv_lines.specs.declared.cause.Cause.{Cause}
use Rattle.pv_lines.specs.declared.cause.LineFault.{LineFault}
use Rattle.pv_lines.specs.declared.cause.LineFault.TheVariants as fault
use Rattle.pv_outbox_script.specs.Words.{WordsSay}
use Rattle.pv_outbox_script.specs.declared.event.Event.{Event}
use Rattle.pv_outbox_script.specs.declared.script.ScriptError.{ScriptError}
use Rattle.pv_outbox_script.specs.declared.script.ScriptError.TheVariants.{Malformed, NoMemory}

-- What a line says whose words are these, or what is wrong with it whatever they say.
abbrev pub SaysBy : Result (List (List ℕ)) Cause → Result Event Cause → Type 0
SaysBy (Ok words) said = WordsSay words said
SaysBy (Err cause) said = said ≡ Err cause

-- What a line says, or the first cause for which it says nothing.
abbrev pub Says : TextLine → Result Event Cause → Type 0
Says line said = SaysBy (words_said line) said

-- What a reading of a line answers. Out of memory may come in place of all else.
abbrev pub ReadsLine : TextLine → Result Event LineFault → Type 0
ReadsLine line (Ok event) = Says line (Ok event)
ReadsLine line (Err (fault.At cause)) = Says line (Err cause)
ReadsLine line (Err fault.NoMemory) = ⊤

-- Lines that count, with their numbers, say these events, one each.
abbrev pub AreEvents : List (ℕ × TextLine) → List Event → Type 0
AreEvents [] [] = ⊤
AreEvents [] (event ∷ events) = ⊥
AreEvents (line ∷ lines) [] = ⊥
AreEvents (line ∷ lines) (event ∷ events) = Says line.1 (Ok event) × AreEvents lines events

-- The first of these lines that says no event has this number, and this is its first cause.
abbrev pub IsFirstFault : List (ℕ × TextLine) → ℕ → Cause → Type 0
IsFirstFault [] number cause = ⊥
IsFirstFault (line ∷ lines) number cause =
    ((line.0 ≡ number) × Says line.1 (Err cause)) ⊎ ((event : Event) × Says line.1 (Ok event) × IsFirstFault lines number cause)

-- The text is a script of these events.
abbrev pub IsScript : List ℕ → List Event → Type 0
IsScript text events = AreEvents (numbered text) events

-- The text is none: this is its first line at fault, and the cause.
abbrev pub IsRefused : List ℕ → ℕ → Cause → Type 0
IsRefused text number cause = IsFirstFault (numbered text) number cause

-- What a reading of a text answers by an error.
abbrev pub RefusesScript : List ℕ → ScriptError → Type 0
RefusesScript text (Malformed line cause) = IsRefused text line cause
RefusesScript text NoMemory = ⊤
