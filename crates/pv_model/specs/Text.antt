-- Lines, blanks, comments, words and numbers, as each text that polydb reads has them.
use Rattle.std.specs.Prelude.{◌≡◌, ℕ, ◌+◌, ◌-◌, ◌*◌, ◌^◌, ◌<◌, ◌≤◌, ℤ, pos, Bool, false, not, ◌&&◌, ◌||◌, ◌==◌, nat_le, List, [], ◌∷◌, length, map, filter, find, if◌then◌else◌, IsTrue}
use lib.IntN.{neg_ℤ}
use Rattle.std.specs.List.{slice_split, list_all, enumerate_from}
use Rattle.std.specs.Option.{option_map_or}
use Rattle.std.specs.Str.Lines.{strip_carriage_return}
use Rattle.pv_base.specs.Name.{is_blank, is_digit}

-- a line of a text, without its end
abbrev pub TextLine : Type 0
TextLine = List ℕ

-- what stands between line feeds; nothing after the last one is no line
abbrev pub parts_that_are_lines : List (List ℕ) → List (List ℕ)
parts_that_are_lines [] = []
parts_that_are_lines (part ∷ []) = if length part == 0 then [] else part ∷ []
parts_that_are_lines (part ∷ next ∷ parts) = part ∷ parts_that_are_lines (next ∷ parts)

-- A text is cut into lines at line feeds, and the last line needs none. A carriage return at the end belongs to the line's end.
unfoldable pub lines : List ℕ → List TextLine
lines text = map strip_carriage_return (parts_that_are_lines (slice_split (λ b. b == 10) text))

-- A line that is empty but for blanks, and one whose first byte after blanks is `#`, are skipped. The others are significant.
unfoldable pub is_significant : TextLine → Bool
is_significant line = option_map_or (λ b. not (b == 35)) (find (λ b. not (is_blank b)) line) false

-- the significant lines, each with its number, among lines of which the first has this number
abbrev pub significant_from : ℕ → List TextLine → List (ℕ × TextLine)
significant_from first lines = filter (λ line. is_significant line.1) (enumerate_from first lines)

-- the significant lines of a text; all of its lines are numbered, from 1
unfoldable pub numbered : List ℕ → List (ℕ × TextLine)
numbered text = significant_from 1 (lines text)

-- Words are split by one or more blanks.
unfoldable pub words : TextLine → List (List ℕ)
words line = filter (λ word. not (length word == 0)) (slice_split is_blank line)

-- a tab, or from the space to `~`
abbrev pub is_text_byte : ℕ → Bool
is_text_byte b = b == 9 || (nat_le 32 b && nat_le b 126)

-- A line that counts is well formed where it has at most so many bytes and all of them are printable or tabs.
pub record IsText (most : ℕ) (line : TextLine) : Type 0 where
  pub short : length line ≤ most
  pub bytes : IsTrue (list_all is_text_byte line)

-- what digits stand for, each by the weight of its place
abbrev pub number_of_digits : List ℕ → ℕ
number_of_digits [] = 0
number_of_digits (c ∷ cs) = (c - 48) * 10 ^ length cs + number_of_digits cs

-- A number is one or more decimal digits. Leading zeros are allowed.
pub record IsDecimal (text : List ℕ) (n : ℕ) : Type 0 where
  pub some : 0 < length text
  pub digits : IsTrue (list_all is_digit text)
  pub value : n ≡ number_of_digits text

-- the digits of a signed number, and what they stand for
abbrev pub digits_of : List ℕ → List ℕ
digits_of [] = []
digits_of (c ∷ cs) = if c == 45 then cs else c ∷ cs

abbrev pub number_of_signed : List ℕ → ℤ
number_of_signed [] = pos 0
number_of_signed (c ∷ cs) = if c == 45 then neg_ℤ (pos (number_of_digits cs)) else pos (number_of_digits (c ∷ cs))

-- A signed number may have one `-` before its digits.
pub record IsSignedDecimal (text : List ℕ) (z : ℤ) : Type 0 where
  pub some : 0 < length (digits_of text)
  pub digits : IsTrue (list_all is_digit (digits_of text))
  pub value : z ≡ number_of_signed text
