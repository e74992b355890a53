-- The texts that are scripts of deciders, line by line, and the first line at fault of another text.
use Rattle.std.specs.Prelude.{ℕ, ◌+◌, List, [], ◌∷◌, ◌++◌, length, Result, Ok, Err}
use Rattle.pv_model.specs.Text.{TextLine, lines, numbered}
use Rattle.pv_lines.specs.Words.{words_said}
use Rattle.pv_lines.specs.declared.cause.Cause.{Cause}
use Rattle.pv_lines.specs.declared.cause.Cause.TheVariants.{DecidersExpected}
use Rattle.pv_quorum_script.specs.Words.{counts_by, says}
use Rattle.pv_quorum_script.specs.declared.event.QuorumEvent.{QuorumEvent}

-- How many deciders there are, and what happens.
pub record Script : Type 0 where
  pub deciders : ℕ
  pub events : List QuorumEvent

-- The number of a line at fault, and its first cause.
pub record Refused : Type 0 where
  pub line : ℕ
  pub cause : Cause

-- what is said by the words of a line, if the line has words
abbrev pub by_words : {X : Type 0} → (List (List ℕ) → Result X Cause) → Result (List (List ℕ)) Cause → Result X Cause
by_words say (Ok words) = say words
by_words say (Err cause) = Err cause

-- how many deciders there are, as the first line that counts says, or why it says nothing
abbrev pub deciders_said : TextLine → Result ℕ Cause
deciders_said line = by_words counts_by (words_said line)

-- what happens, as a later line says where there are so many deciders, or why it says nothing
abbrev pub event_said : ℕ → TextLine → Result QuorumEvent Cause
event_said count line = by_words (says count) (words_said line)

-- goes on with what a line says, or ends at that line
abbrev pub going_on : {X Y : Type 0} → ℕ → Result X Cause → (X → Result Y Refused) → Result Y Refused
going_on number (Ok x) go = go x
going_on number (Err cause) go = Err (record { line = number; cause = cause })

-- The script of what earlier lines said and these say, one event each, or the first of these that says nothing.
abbrev pub script_from : (deciders : ℕ) → List QuorumEvent → List (ℕ × TextLine) → Result Script Refused
script_from deciders events [] = Ok (record { deciders = deciders; events = events })
script_from deciders events (line ∷ lines) = going_on line.0 (event_said deciders line.1) (λ event. script_from deciders (events ++ event ∷ []) lines)

-- The first of the lines that count says how many deciders there are. Where no line counts, it lacks after the last line.
abbrev pub script_of : (after_last : ℕ) → List (ℕ × TextLine) → Result Script Refused
script_of after_last [] = Err (record { line = after_last; cause = DecidersExpected })
script_of after_last (line ∷ lines) = going_on line.0 (deciders_said line.1) (λ deciders. script_from deciders [] lines)

-- The script that a text is, or its first line at fault.
abbrev pub script_said : List ℕ → Result Script Refused
script_said text = script_of (length (lines text) + 1) (numbered text)
