-- The lines of scripts of each kind: which words they have, and what stands after the first.
use Rattle.std.specs.Prelude.{ℕ, ◌^◌, ◌-◌, Bool, true, false, ◌&&◌, ◌||◌, ◌==◌, nat_le, nat_lt, Option, Some, None, List, [], ◌∷◌, length, map, filter, find, if◌then◌else◌, codes}
use Rattle.pv_base.specs.declared.limits.TheConstants.{MAX_SITES, MIN_JOURNAL, MAX_JOURNAL, MAX_LINE, MAX_LIVE_LINE, MAX_PUMP, MAX_CALL}
use Rattle.std.specs.List.{list_all}
use Rattle.std.specs.Str.{bytes_eq}
use Rattle.pv_base.specs.Name.{is_blank, is_digit}
use Rattle.pv_model.specs.Text.{TextLine, number_of_digits, digits_of, number_of_signed, words}
use Rattle.pv_model.specs.Meaning.{fits_i64}

-- the kinds of scripts
pub data Script : Type 0 where
  -- a schedule: events, in the order in which they happen
  scheduled : Script
  -- a live script: clients, with what each asks for
  live : Script

-- the greatest length of a line, in bytes
abbrev pub most_bytes : Script → ℕ
most_bytes scheduled = MAX_LINE
most_bytes live = MAX_LIVE_LINE

-- what may stand after the first word of a line
pub data Field : Type 0 where
  number : (least most : ℕ) → Field
  site : Field
  value : Field
  mode : Field
  name : Field
  -- the name of an item that is declared
  item_name : Field
  program : Field

-- the forms of the lines that each kind of script has, before others
abbrev pub with_declarations : List (List ℕ × List Field) → List (List ℕ × List Field)
with_declarations more =
    (codes "sites", number 1 MAX_SITES ∷ []) ∷ (codes "journal", number MIN_JOURNAL MAX_JOURNAL ∷ [])
    ∷ (codes "item", name ∷ site ∷ value ∷ [])
    ∷ more

-- The first words, each with what stands after it. `pump` has two forms.
unfoldable pub line_forms : Script → List (List ℕ × List Field)
line_forms scheduled =
    with_declarations (
    (codes "submit", site ∷ program ∷ []) ∷ (codes "query", site ∷ program ∷ [])
    ∷ (codes "deliver", number 0 (2 ^ 64 - 1) ∷ []) ∷ (codes "lose", number 0 (2 ^ 64 - 1) ∷ [])
    ∷ (codes "pump", []) ∷ (codes "pump", number 1 MAX_PUMP ∷ [])
    ∷ (codes "drop", site ∷ []) ∷ (codes "tick", site ∷ []) ∷ (codes "stop", site ∷ []) ∷ (codes "start", site ∷ [])
    ∷ (codes "mend", site ∷ []) ∷ (codes "checkpoint", site ∷ [])
    ∷ (codes "cut", site ∷ number 1 MAX_CALL ∷ mode ∷ []) ∷ (codes "fail", site ∷ number 1 MAX_CALL ∷ mode ∷ [])
    ∷ (codes "sent", []) ∷ (codes "report", []) ∷ (codes "total", []) ∷ []
    )
line_forms live =
    with_declarations (
    (codes "plan", number 0 (2 ^ 32 - 1) ∷ number 0 (2 ^ 32 - 1) ∷ [])
    ∷ (codes "client", site ∷ [])
    ∷ (codes "submit", program ∷ []) ∷ (codes "query", program ∷ [])
    ∷ (codes "peek", item_name ∷ []) ∷ []
    )

-- the first word of a line that counts
abbrev pub leading_word : List (List ℕ) → List ℕ
leading_word [] = []
leading_word (word ∷ more) = word

abbrev pub first_word : TextLine → List ℕ
first_word line = leading_word (words line)

-- the forms of lines with this first word
abbrev pub forms_of : Script → List ℕ → List (List Field)
forms_of script word = map (λ form. form.1) (filter (λ form. bytes_eq word form.0) (line_forms script))

-- Whether lines with this first word are requests: a program stands at their end.
unfoldable pub takes_program : List ℕ → Bool
takes_program word = bytes_eq word (codes "submit") || bytes_eq word (codes "query")

-- Whether a client wants something by lines with this first word: a request is to run, or an item is looked at.
unfoldable pub is_wished : List ℕ → Bool
is_wished word = takes_program word || bytes_eq word (codes "peek")

-- what is after the blanks at the front
abbrev pub after_blanks : List ℕ → List ℕ
after_blanks [] = []
after_blanks (b ∷ bs) = if is_blank b then after_blanks bs else b ∷ bs

-- what is after the first word, from the blank on
abbrev pub after_word : List ℕ → List ℕ
after_word [] = []
after_word (b ∷ bs) = if is_blank b then b ∷ bs else after_word bs

-- what is before the blanks at the end
abbrev pub before_blanks : List ℕ → List ℕ
before_blanks [] = []
before_blanks (b ∷ bs) = if list_all is_blank (b ∷ bs) then [] else b ∷ before_blanks bs

-- The text of a program begins at its first byte after the words before it and the blanks, and ends before the blanks at the line's end. In a schedule two
-- words come before it, the second of them the site; in a live script it is one.
unfoldable pub program_text : Script → TextLine → List ℕ
program_text scheduled line = before_blanks (after_blanks (after_word (after_blanks (after_word (after_blanks line)))))
program_text live line = before_blanks (after_blanks (after_word (after_blanks line)))

-- words after the first, where all after the second of them is one text
abbrev pub site_and_text : List ℕ → List (List ℕ) → List (List ℕ)
site_and_text text (at ∷ word ∷ more) = at ∷ text ∷ []
site_and_text text words = words

-- words after the first, where all of them are one text
abbrev pub text_alone : List ℕ → List (List ℕ) → List (List ℕ)
text_alone text [] = []
text_alone text (word ∷ more) = text ∷ []

-- what stands after the first word of a request
abbrev pub with_text : Script → List ℕ → List (List ℕ) → List (List ℕ)
with_text scheduled text words = site_and_text text words
with_text live text words = text_alone text words

abbrev pub later_words : List (List ℕ) → List (List ℕ)
later_words [] = []
later_words (word ∷ more) = more

-- What stands after the first word. A program counts as one word.
unfoldable pub arguments : Script → TextLine → List (List ℕ)
arguments script line =
    if takes_program (first_word line) then with_text script (program_text script line) (later_words (words line)) else later_words (words line)

-- the form that the line has, by the number of its words
unfoldable pub form_of : Script → TextLine → Option (List Field)
form_of script line = find (λ form. length form == length (arguments script line)) (forms_of script (first_word line))

-- fields beside the words in their places
abbrev pub beside : List Field → List (List ℕ) → List (Field × List ℕ)
beside [] words = []
beside (field ∷ fields) [] = []
beside (field ∷ fields) (word ∷ words) = (field, word) ∷ beside fields words

abbrev pub fields_in : Option (List Field) → List (List ℕ) → List (Field × List ℕ)
fields_in None words = []
fields_in (Some fields) words = beside fields words

-- each field of the line's form, with what stands there
abbrev pub fields_of : Script → TextLine → List (Field × List ℕ)
fields_of script line = fields_in (form_of script line) (arguments script line)

-- one or more digits
abbrev pub are_digits : List ℕ → Bool
are_digits [] = false
are_digits (b ∷ bs) = list_all is_digit (b ∷ bs)

-- Whether what stands in a field of a number is one in its range, where there are so many sites. Other fields have no number.
abbrev pub has_good_number : ℕ → Field × List ℕ → Bool
has_good_number sites (number least most, word) = are_digits word && (nat_le least (number_of_digits word) && nat_le (number_of_digits word) most)
has_good_number sites (site, word) = are_digits word && nat_lt (number_of_digits word) sites
has_good_number sites (value, word) = are_digits (digits_of word) && fits_i64 (number_of_signed word)
has_good_number sites (_, word) = true
