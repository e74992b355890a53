-- The lines of a trace's text: those of its schedule, which stand behind a prompt, and those that were printed.
use Rattle.std.specs.Prelude.{ℕ, Bool, true, List, [], ◌∷◌, map, filter, take, drop, if◌then◌else◌, codes}
use Rattle.std.specs.List.{enumerate_from}
use Rattle.std.specs.Str.{bytes_eq}
use Rattle.pv_model.specs.Text.{TextLine, lines, is_significant}

-- what stands before each line of the schedule: `>` and a space
abbrev pub prompt : List ℕ
prompt = codes "> "

pub data Entry : Type 0 where
  -- a line of the schedule, without the prompt
  said : TextLine → Entry
  -- a line that was printed
  printed : TextLine → Entry

-- what a line of the text is
abbrev pub entry_of : TextLine → Entry
entry_of line = if bytes_eq (take 2 line) prompt then said (drop 2 line) else printed line

-- A line of the schedule with nothing or a comment behind the prompt is skipped.
abbrev pub counts : Entry → Bool
counts (said line) = is_significant line
counts (printed line) = true

abbrev pub numbered_entry : ℕ × TextLine → ℕ × Entry
numbered_entry line = (line.0, entry_of line.1)

-- the entries that count, among lines of which the first has this number
abbrev pub entries_from : ℕ → List TextLine → List (ℕ × Entry)
entries_from first lines = filter (λ entry. counts entry.1) (map numbered_entry (enumerate_from first lines))

-- the entries of a text that count, each with the number of its line; all lines are numbered, from 1
unfoldable pub entries : List ℕ → List (ℕ × Entry)
entries text = entries_from 1 (lines text)

-- the entries without their numbers
abbrev pub plain : List (ℕ × Entry) → List Entry
plain numbered = map (λ entry. entry.1) numbered

-- the lines of the schedule among entries
abbrev pub said_in : List Entry → List TextLine
said_in [] = []
said_in (said line ∷ entries) = line ∷ said_in entries
said_in (printed line ∷ entries) = said_in entries

-- the printed lines with which entries begin
abbrev pub printed_first : List Entry → List TextLine
printed_first [] = []
printed_first (said line ∷ entries) = []
printed_first (printed line ∷ entries) = line ∷ printed_first entries
