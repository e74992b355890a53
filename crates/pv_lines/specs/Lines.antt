-- What is left of a text that is read line by line.
use Rattle.std.specs.Prelude.{ℕ, ◌+◌, List, length}
use Rattle.pv_model.specs.Text.{TextLine, lines, numbered}

-- the lines that count and are still to be read, each with its number, and the number after the text's last line
pub record LinesLeft : Type 0 where
  pub numbered : List (ℕ × TextLine)
  pub after_last : ℕ

-- what is left of a text of which nothing is read
abbrev pub unread : List ℕ → LinesLeft
unread text = record { numbered = numbered text; after_last = length (lines text) + 1 }
