-- What is left of a trace's text that is read entry by entry.
use Rattle.std.specs.Prelude.{ℕ, ◌+◌, List, length}
use Rattle.pv_audit.specs.Entries.{Entry, entries}
use Rattle.pv_model.specs.Text.{lines}

-- the entries that are still to be read, each with its number, and the number after the text's last line
pub record EntriesLeft : Type 0 where
  pub numbered : List (ℕ × Entry)
  pub after_last : ℕ

-- what is left of a text of which nothing is read
abbrev pub unread : List ℕ → EntriesLeft
unread text = record { numbered = entries text; after_last = length (lines text) + 1 }
