-- A line without the blanks at its ends says what the line says.
use Rattle.std.proofs.Common.{◌≡◌, ◌∙◌, ℕ, zero, suc, Bool, true, false, not, Option, Some, None, List, [], ◌∷◌, ◌++◌, cond, filter, find, length, replicate, refl, sym, ap}
use Rattle.std.specs.Prelude.{◌==◌}
use Rattle.std.specs.List.{list_all, onto_first, slice_split}
use Rattle.std.specs.Option.{option_map_or}
use Rattle.std.proofs.lemmas.List.Elements.{filter-append}
use Rattle.std.proofs.lemmas.List.{append-nil}
use Rattle.std.proofs.lemmas.List.Splits.{slice_split-cons_yes}
use Rattle.pv_base.proofs.Basics.{and-left, and-right}
use Rattle.pv_base.specs.Name.{is_blank}
use Rattle.pv_law_traces.specs.Bare.{bare}
use Rattle.pv_law_transcript.proofs.LineLemmas.{has-part}
use Rattle.pv_law_transcript.proofs.RequestLemmas.{ends-once, text-after_blanks, text-before_blanks}
use Rattle.pv_model.specs.LineForms.{after_blanks, after_word, arguments, before_blanks, first_word, later_words, leading_word, program_text, scheduled, takes_program, with_text}
use Rattle.pv_model.specs.Text.{IsText, TextLine, is_significant, words}

-- ---- words

abbrev some_bytes : List ℕ → Bool
some_bytes word = not (length word == 0)

abbrev kept : List (List ℕ) → List (List ℕ)
kept parts = filter some_bytes parts

-- A blank before a line adds no word,
words-blank : (b : ℕ) (bs : List ℕ) → is_blank b ≡ true → words (b ∷ bs) ≡ words bs
unfolding words
words-blank b bs is = ap kept (slice_split-cons_yes is_blank b bs is)

words-after_blanks : (line : List ℕ) → words (after_blanks line) ≡ words line
words-after_blanks [] = refl
words-after_blanks (b ∷ bs) = go (is_blank b) refl (words-after_blanks bs)
  where
    go : (yes : Bool) → is_blank b ≡ yes → words (after_blanks bs) ≡ words bs → words (cond yes (after_blanks bs) (b ∷ bs)) ≡ words (b ∷ bs)
    go true is same = same ∙ sym (words-blank b bs is)
    go false is same = refl

-- and so none behind it: they are cut into empty parts.
record Ends (bs : List ℕ) : Type 0 where
  more : ℕ
  are : slice_split is_blank bs ≡ slice_split is_blank (before_blanks bs) ++ replicate more []

blank-parts : (bs : List ℕ) → list_all is_blank bs ≡ true → slice_split is_blank bs ≡ [] ∷ replicate (length bs) []
blank-parts [] all = refl
blank-parts (b ∷ bs) all =
    slice_split-cons_yes is_blank b bs (and-left (is_blank b) (list_all is_blank bs) all)
    ∙ ap (λ (parts : List (List ℕ)). [] ∷ parts) (blank-parts bs (and-right (is_blank b) (list_all is_blank bs) all))

onto-append : (b : ℕ) (part : List ℕ) (parts more : List (List ℕ)) (xs : List (List ℕ)) → xs ≡ part ∷ parts → onto_first b (xs ++ more) ≡ onto_first b xs ++ more
onto-append b part parts more xs are = rw are refl

step-append : (b : ℕ) (yes : Bool) (xs more : List (List ℕ)) (part : List ℕ) (parts : List (List ℕ)) → xs ≡ part ∷ parts
    → cond yes ([] ∷ (xs ++ more)) (onto_first b (xs ++ more)) ≡ cond yes ([] ∷ xs) (onto_first b xs) ++ more
step-append b true xs more part parts are = refl
step-append b false xs more part parts are = onto-append b part parts more xs are

ends-by : (b : ℕ) (bs : List ℕ) (all : Bool) → list_all is_blank (b ∷ bs) ≡ all → Ends bs
    → (more : ℕ) × (slice_split is_blank (b ∷ bs) ≡ slice_split is_blank (cond all [] (b ∷ before_blanks bs)) ++ replicate more [])
ends-by b bs true is ends = (length (b ∷ bs), blank-parts (b ∷ bs) is)
ends-by b bs false is ends =
    let has = has-part is_blank (before_blanks bs) in (
      ends.more,
      ap (λ (parts : List (List ℕ)). cond (is_blank b) ([] ∷ parts) (onto_first b parts)) ends.are
          ∙ step-append b (is_blank b) (slice_split is_blank (before_blanks bs)) (replicate ends.more []) has.part has.more has.are,
    )

ends : (bs : List ℕ) → Ends bs
ends [] = record { more = 0; are = sym (append-nil (slice_split is_blank [])) }
ends (b ∷ bs) = let by = ends-by b bs (list_all is_blank (b ∷ bs)) refl (ends bs) in record { more = by.0; are = by.1 }

none-kept : (n : ℕ) → kept (replicate n []) ≡ []
none-kept zero = refl
none-kept (suc n) = none-kept n

words-before_blanks : (line : List ℕ) → words (before_blanks line) ≡ words line
unfolding words
words-before_blanks line =
    let by = ends line in
    let parts = slice_split is_blank (before_blanks line) in
    sym (ap kept by.are ∙ filter-append some_bytes parts (replicate by.more []) ∙ ap (λ (rest : List (List ℕ)). kept parts ++ rest) (none-kept by.more) ∙ append-nil (kept parts))

pub bare-words : (line : TextLine) → words (bare line) ≡ words line
bare-words line = words-before_blanks (after_blanks line) ∙ words-after_blanks line

-- ---- the text of a program

after-once : (bs : List ℕ) → after_blanks (after_blanks bs) ≡ after_blanks bs
after-once [] = refl
after-once (b ∷ bs) = go (is_blank b) refl (after-once bs)
  where
    go : (yes : Bool) → is_blank b ≡ yes → after_blanks (after_blanks bs) ≡ after_blanks bs
        → after_blanks (cond yes (after_blanks bs) (b ∷ bs)) ≡ cond yes (after_blanks bs) (b ∷ bs)
    go true is once = once
    go false is once = ap (λ (yes : Bool). cond yes (after_blanks bs) (b ∷ bs)) is

-- blanks alone
all-blank : (bs : List ℕ) → list_all is_blank bs ≡ true → (before_blanks bs ≡ []) × (after_blanks bs ≡ [])
all-blank [] all = (refl, refl)
all-blank (b ∷ bs) all = (
  ap (λ (yes : Bool). cond yes [] (b ∷ before_blanks bs)) all,
  ap (λ (yes : Bool). cond yes (after_blanks bs) (b ∷ bs)) (and-left (is_blank b) (list_all is_blank bs) all)
      ∙ (all-blank bs (and-right (is_blank b) (list_all is_blank bs) all)).1,
)

-- The blanks at the end may go first or last.
after-before : (bs : List ℕ) → after_blanks (before_blanks bs) ≡ before_blanks (after_blanks bs)
after-before [] = refl
after-before (b ∷ bs) = go (list_all is_blank (b ∷ bs)) (is_blank b) refl refl (after-before bs)
  where
    go : (all yes : Bool) → (list_all is_blank (b ∷ bs)) ≡ all → is_blank b ≡ yes → after_blanks (before_blanks bs) ≡ before_blanks (after_blanks bs)
        → after_blanks (cond all [] (b ∷ before_blanks bs)) ≡ before_blanks (cond yes (after_blanks bs) (b ∷ bs))
    go true true are is same = sym (ap before_blanks (all-blank bs (and-right (is_blank b) (list_all is_blank bs) are)).1)
    go true false are is same = sym (ap (λ (all : Bool). cond all [] (b ∷ before_blanks bs)) are)
    go false true are is same = ap (λ (yes : Bool). cond yes (after_blanks (before_blanks bs)) (b ∷ before_blanks bs)) is ∙ same
    go false false are is same =
        ap (λ (yes : Bool). cond yes (after_blanks (before_blanks bs)) (b ∷ before_blanks bs)) is
        ∙ sym (ap (λ (all : Bool). cond all [] (b ∷ before_blanks bs)) are)

word-before : (bs : List ℕ) → after_word (before_blanks bs) ≡ before_blanks (after_word bs)
word-before [] = refl
word-before (b ∷ bs) = go (list_all is_blank (b ∷ bs)) (is_blank b) refl refl (word-before bs)
  where
    go : (all yes : Bool) → (list_all is_blank (b ∷ bs)) ≡ all → is_blank b ≡ yes → after_word (before_blanks bs) ≡ before_blanks (after_word bs)
        → after_word (cond all [] (b ∷ before_blanks bs)) ≡ before_blanks (cond yes (b ∷ bs) (after_word bs))
    go true true are is same = sym (ap (λ (all : Bool). cond all [] (b ∷ before_blanks bs)) are)
    go true false are is same = let never : true ≡ false = sym (and-left (is_blank b) (list_all is_blank bs) are) ∙ is in let no : ⊥ = cc in absurd no
    go false true are is same =
        ap (λ (yes : Bool). cond yes (b ∷ before_blanks bs) (after_word (before_blanks bs))) is
        ∙ sym (ap (λ (all : Bool). cond all [] (b ∷ before_blanks bs)) are)
    go false false are is same = ap (λ (yes : Bool). cond yes (b ∷ before_blanks bs) (after_word (before_blanks bs))) is ∙ same

bare-program : (line : TextLine) → program_text scheduled (bare line) ≡ program_text scheduled line
unfolding program_text
bare-program line =
    let first = after_blanks line in
    let one : after_blanks (before_blanks first) ≡ before_blanks first = after-before first ∙ ap before_blanks (after-once line) in
    let second = after_word first in
    let third = after_blanks second in
    let fourth = after_word third in
    ap (λ (t : List ℕ). before_blanks (after_blanks (after_word (after_blanks (after_word t))))) one
    ∙ ap (λ (t : List ℕ). before_blanks (after_blanks (after_word (after_blanks t)))) (word-before first)
    ∙ ap (λ (t : List ℕ). before_blanks (after_blanks (after_word t))) (after-before second)
    ∙ ap (λ (t : List ℕ). before_blanks (after_blanks t)) (word-before third)
    ∙ ap (λ (t : List ℕ). before_blanks t) (after-before fourth)
    ∙ ends-once (after_blanks fourth)

pub bare-arguments : (line : TextLine) → arguments scheduled (bare line) ≡ arguments scheduled line
unfolding arguments
bare-arguments line =
    ap (λ (all : List (List ℕ)). cond (takes_program (leading_word all)) (with_text scheduled (program_text scheduled (bare line)) (later_words all)) (later_words all)) (bare-words line)
    ∙ ap (λ (text : List ℕ). cond (takes_program (first_word line)) (with_text scheduled text (later_words (words line))) (later_words (words line))) (bare-program line)

-- ---- its bytes

pub bare-text : (most : ℕ) (line : TextLine) → IsText most line → IsText most (bare line)
bare-text most line is = text-before_blanks most (after_blanks line) (text-after_blanks most line is)

abbrev first_byte : List ℕ → Option ℕ
first_byte line = find (λ b. not (is_blank b)) line

-- the first byte that is no blank
find-by : (b : ℕ) (bs : List ℕ) (yes : Bool) → is_blank b ≡ yes → first_byte (b ∷ bs) ≡ cond yes (first_byte bs) (Some b)
find-by b bs true is = ap (λ (yes : Bool). cond (not yes) (Some b) (first_byte bs)) is
find-by b bs false is = ap (λ (yes : Bool). cond (not yes) (Some b) (first_byte bs)) is

first-after_blanks : (bs : List ℕ) → first_byte (after_blanks bs) ≡ first_byte bs
first-after_blanks [] = refl
first-after_blanks (b ∷ bs) = go (is_blank b) refl (first-after_blanks bs)
  where
    go : (yes : Bool) → is_blank b ≡ yes → first_byte (after_blanks bs) ≡ first_byte bs → first_byte (cond yes (after_blanks bs) (b ∷ bs)) ≡ first_byte (b ∷ bs)
    go true is same = same ∙ sym (find-by b bs true is)
    go false is same = refl

none-first : (bs : List ℕ) → list_all is_blank bs ≡ true → first_byte bs ≡ None
none-first [] all = refl
none-first (b ∷ bs) all =
    find-by b bs true (and-left (is_blank b) (list_all is_blank bs) all) ∙ none-first bs (and-right (is_blank b) (list_all is_blank bs) all)

first-before_blanks : (bs : List ℕ) → first_byte (before_blanks bs) ≡ first_byte bs
first-before_blanks [] = refl
first-before_blanks (b ∷ bs) = go (list_all is_blank (b ∷ bs)) refl (first-before_blanks bs)
  where
    go : (all : Bool) → list_all is_blank (b ∷ bs) ≡ all → first_byte (before_blanks bs) ≡ first_byte bs → first_byte (cond all [] (b ∷ before_blanks bs)) ≡ first_byte (b ∷ bs)
    go true are same = sym (none-first (b ∷ bs) are)
    go false are same = ap (λ (rest : Option ℕ). cond (not (is_blank b)) (Some b) rest) same

pub bare-counts : (line : TextLine) → is_significant (bare line) ≡ is_significant line
unfolding is_significant
bare-counts line = ap (λ (first : Option ℕ). option_map_or (λ b. not (b == 35)) first false) (first-before_blanks (after_blanks line) ∙ first-after_blanks line)
