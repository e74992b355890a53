-- The entries of a text that is put together of a trace's lines are those lines.
use Rattle.std.proofs.Common.{◌≡◌, ◌∙◌, ℕ, ◌+◌, Bool, true, false, cond, List, [], ◌∷◌, ◌++◌, All, filter, map, refl, ap, append_assoc}
use Rattle.std.specs.List.{list_all}
use Rattle.pv_audit.specs.Entries.{Entry, counts, entries, entries_from, entry_of, plain, printed, said}
use Rattle.pv_base.specs.Catalog.{Declared}
use Rattle.pv_law_step.proofs.Lists.{all-head, all-tail}
use Rattle.pv_law_traces.specs.Bare.{bare}
use Rattle.pv_law_traces.proofs.BareLemmas.{bare-counts, bare-text}
use Rattle.pv_law_transcript.proofs.LineLemmas.{lines-text}
use Rattle.pv_model.specs.ReplyText.{line_feed}
use Rattle.pv_model.specs.Text.{IsText, TextLine, is_significant, is_text_byte, lines}
use Rattle.pv_protocol.specs.LineText.{line_text, text_of, words_of}
use Rattle.pv_protocol.specs.Lines.{Line}
use Rattle.pv_run.specs.Traced.{said_text}

abbrev pub is_text : List ℕ → Bool
is_text bytes = list_all is_text_byte bytes

-- What the line prints as is an entry that was printed.
abbrev pub IsPrintedEntry : Declared → Line → Type 0
IsPrintedEntry catalog line = entry_of (words_of catalog line) ≡ printed (words_of catalog line)

-- the entries that count among these lines
abbrev pub entries_in : List TextLine → List Entry
entries_in ls = filter counts (map entry_of ls)

plain-from : (first : ℕ) (ls : List TextLine) → plain (entries_from first ls) ≡ entries_in ls
plain-from first [] = refl
plain-from first (line ∷ ls) = go (counts (entry_of line)) (plain-from (first + 1) ls)
  where
    go : (counted : Bool) → plain (entries_from (first + 1) ls) ≡ entries_in ls
        → plain (cond counted ((first, entry_of line) ∷ entries_from (first + 1) ls) (entries_from (first + 1) ls)) ≡ cond counted (entry_of line ∷ entries_in ls) (entries_in ls)
    go true same = ap (λ (rest : List Entry). entry_of line ∷ rest) same
    go false same = same

pub plain-entries : (text : List ℕ) → plain (entries text) ≡ entries_in (lines text)
unfolding entries
plain-entries text = plain-from 1 (lines text)

-- an entry that counts before others
counted-first : (line : TextLine) (ls : List TextLine) (entry : Entry) → entry_of line ≡ entry → counts entry ≡ true → entries_in (line ∷ ls) ≡ entry ∷ entries_in ls
counted-first line ls entry is counted =
    ap (λ (x : Entry). cond (counts x) (x ∷ entries_in ls) (entries_in ls)) is ∙ ap (λ (yes : Bool). cond yes (entry ∷ entries_in ls) (entries_in ls)) counted

-- A line of the schedule is the first entry,
pub said-first : (most : ℕ) (line : TextLine) (rest : List ℕ) → IsText most line → is_significant line ≡ true
    → entries_in (lines (said_text line ++ rest)) ≡ said (bare line) ∷ entries_in (lines rest)
said-first most line rest is counted =
    ap (λ (t : List ℕ). entries_in (lines t)) (ap (λ (t : List ℕ). 62 ∷ (32 ∷ t)) (append_assoc (bare line) line_feed rest))
    ∙ ap entries_in (lines-text (62 ∷ (32 ∷ bare line)) rest (bare-text most line is).bytes)
    ∙ counted-first (62 ∷ (32 ∷ bare line)) (lines rest) (said (bare line)) refl (bare-counts line ∙ counted)

-- and so is a line that was printed.
printed-first : (catalog : Declared) (line : Line) (rest : List ℕ) → is_text (words_of catalog line) ≡ true → IsPrintedEntry catalog line
    → entries_in (lines (line_text catalog line ++ rest)) ≡ printed (words_of catalog line) ∷ entries_in (lines rest)
printed-first catalog line rest text entry =
    ap (λ (t : List ℕ). entries_in (lines t)) (append_assoc (words_of catalog line) line_feed rest)
    ∙ ap entries_in (lines-text (words_of catalog line) rest text)
    ∙ counted-first (words_of catalog line) (lines rest) (printed (words_of catalog line)) entry refl

pub printed-front : (catalog : Declared) (ls : List Line) (rest : List ℕ) → All (λ (line : Line). is_text (words_of catalog line) ≡ true) ls → ((line : Line) → IsPrintedEntry catalog line)
    → entries_in (lines (text_of catalog ls ++ rest)) ≡ map printed (map (words_of catalog) ls) ++ entries_in (lines rest)
printed-front catalog [] rest texts entry = refl
printed-front catalog (line ∷ ls) rest texts entry =
    ap (λ (t : List ℕ). entries_in (lines t)) (append_assoc (line_text catalog line) (text_of catalog ls) rest)
    ∙ printed-first catalog line (text_of catalog ls ++ rest) (all-head (λ (l : Line). is_text (words_of catalog l) ≡ true) line ls texts) (entry line)
    ∙ ap (λ (entries : List Entry). printed (words_of catalog line) ∷ entries)
    (printed-front catalog ls rest (all-tail (λ (l : Line). is_text (words_of catalog l) ≡ true) line ls texts) entry)
