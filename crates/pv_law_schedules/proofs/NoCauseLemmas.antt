-- A line without causes fits: each of its fields is as it has to be.
use Rattle.std.proofs.Common.{◌≡◌, ◌⊎◌, ⊎_elim, ℕ, ◌<◌, ◌≤◌, Bool, true, false, Option, Some, None, List, [], ◌∷◌, length, inl, inr, refl, sym, ap, subst, ◌∙◌, arith}
use Rattle.std.specs.Prelude.{◌==◌, ◌||◌, not, cond, map, filter, codes}
use Rattle.std.specs.List.{list_all, Contains}
use Rattle.std.specs.Cmp.Derive.{both_true}
use Rattle.std.specs.Str.{bytes_eq}
use Rattle.std.proofs.lemmas.Bool.{and_parts, false≢true, eqb-true, or_cases}
use Rattle.std.proofs.lemmas.Slice.Eq.{bytes_eq-Decides}
use Rattle.pv_base.specs.declared.limits.TheConstants.{MAX_ITEMS, MAX_LINE, MAX_PROGRAM_ITEMS}
use Rattle.pv_base.specs.Catalog.{place_of}
use Rattle.pv_base.specs.Name.{is_blank, is_name}
use Rattle.pv_model.specs.LineCauses as causes
use Rattle.pv_model.specs.LineCauses.{Before, or_default, declared_by, last_site, home_of, LineCause, HasLineCause, Has, HasProgram, mode_words}
use Rattle.pv_model.specs.Check.{AreItems, has_assignment, has_return}
use Rattle.pv_model.specs.LineForms as fields
use Rattle.pv_model.specs.LineForms.{Script, scheduled, live, most_bytes, Field, line_forms, first_word, forms_of, takes_program, after_blanks, after_word, before_blanks, program_text, site_and_text, text_alone, with_text, later_words, arguments, form_of, fields_of, fields_in, beside, has_good_number}
use Rattle.pv_model.specs.ProgramText.{Refusal, too_large, at_fault, IsRefused, IsProgramText}
use Rattle.pv_model.specs.Syntax.{Program}
use Rattle.pv_model.specs.Text.{TextLine, words, is_text_byte, IsText}
use Rattle.pv_base.proofs.Basics.{and-left, and-right}
use Rattle.pv_base.proofs.ContainsLemmas.{Contains-first, Contains-behind, Contains-nil}
use Rattle.pv_law_programs.proofs.ItemLemmas.{some_items}
use Rattle.pv_law_schedules.proofs.LineFormLemmas.{Each, Each-contains, Runs, Suits, Fits, look, form_of-look}
use Rattle.pv_law_schedules.proofs.LineTextLemmas.{found-in, is_program, none-such, none-stands, one-text}
use Rattle.pv_law_programs.proofs.SomeAnswer.{some_answer}
use Rattle.pv_law_schedules.proofs.SomeCauseLemmas.{Decidable, decide-nothing, decide-number, decide-bytes, decide-less, decide-contains, names_item-none}

pub isnt-true : (b : Bool) → (b ≡ true → ⊥) → b ≡ false
isnt-true true isnt = absurd (isnt refl)
isnt-true false isnt = refl

pub isnt-false : (b : Bool) → (b ≡ false → ⊥) → b ≡ true
isnt-false true isnt = refl
isnt-false false isnt = absurd (isnt refl)

-- A program's text is no longer than its line.

length-cond : (b : Bool) (xs ys : List ℕ) (n : ℕ) → length xs ≤ n → length ys ≤ n → length (cond b xs ys) ≤ n
length-cond true xs ys n h k = h
length-cond false xs ys n h k = k

length-after_blanks : (bs : List ℕ) → length (after_blanks bs) ≤ length bs
length-after_blanks [] = omega arith
length-after_blanks (b ∷ bs) =
    length-cond (is_blank b) (after_blanks bs) (b ∷ bs) (length (b ∷ bs)) (let fewer = length-after_blanks bs in omega (arith, fewer)) (omega arith)

length-after_word : (bs : List ℕ) → length (after_word bs) ≤ length bs
length-after_word [] = omega arith
length-after_word (b ∷ bs) =
    length-cond (is_blank b) (b ∷ bs) (after_word bs) (length (b ∷ bs)) (omega arith) (let fewer = length-after_word bs in omega (arith, fewer))

length-before_blanks : (bs : List ℕ) → length (before_blanks bs) ≤ length bs
length-before_blanks [] = omega arith
length-before_blanks (b ∷ bs) =
    length-cond (list_all is_blank (b ∷ bs)) [] (b ∷ before_blanks bs) (length (b ∷ bs)) (omega arith) (let fewer = length-before_blanks bs in omega (arith, fewer))

length-program_text : (script : Script) (line : TextLine) → length (program_text script line) ≤ length line
unfolding program_text
length-program_text scheduled line =
    let a = after_blanks line in
    let b = after_word a in
    let c = after_blanks b in
    let d = after_word c in
    let e = after_blanks d in
    omega (arith, length-after_blanks line, length-after_word a, length-after_blanks b, length-after_word c, length-after_blanks d, length-before_blanks e)
length-program_text live line =
    let a = after_blanks line in
    let b = after_word a in
    let c = after_blanks b in
    omega (arith, length-after_blanks line, length-after_word a, length-after_blanks b, length-before_blanks c)

most_bytes-le : (script : Script) → most_bytes script ≤ MAX_LINE
most_bytes-le scheduled = omega arith
most_bytes-le live = omega arith

-- The text of a program is what stands behind the first words.

-- what holds of each entry with this word holds of the forms
forms-pass : (q : List Field → Bool) (word : List ℕ) (entries : List (List ℕ × List Field)) → Each (λ entry. bytes_eq word entry.0 ≡ true → q entry.1 ≡ true) entries
    → list_all q (map (λ entry. entry.1) (filter (λ entry. bytes_eq word entry.0) entries)) ≡ true
forms-pass q word [] each = refl
forms-pass q word (entry ∷ entries) each = go (forms-pass q word entries each.1) (bytes_eq word entry.0) each.0
  where
    go : list_all q (map (λ (entry : List ℕ × List Field). entry.1) (filter (λ entry. bytes_eq word entry.0) entries)) ≡ true → (b : Bool) → (b ≡ true → q entry.1 ≡ true)
        → list_all q (map (λ (entry : List ℕ × List Field). entry.1) (cond b (entry ∷ filter (λ entry. bytes_eq word entry.0) entries) (filter (λ entry. bytes_eq word entry.0) entries))) ≡ true
    go more true is = both_true (is refl) more
    go more false is = more

abbrev programless : List Field → Bool
programless form = list_all (λ field. not (is_program field)) form

-- it is a form of requests, or no program stands in it
abbrev is_request_or_programless : List ℕ × List Field → Bool
is_request_or_programless entry = takes_program entry.0 || programless entry.1

each-request-or-programless : (script : Script) → list_all is_request_or_programless (line_forms script) ≡ true
unfolding line_forms takes_program is_program
each-request-or-programless scheduled = refl
each-request-or-programless live = refl

-- so no form with another word has one
each-programless : (word : List ℕ) → takes_program word ≡ false → (entries : List (List ℕ × List Field)) → list_all is_request_or_programless entries ≡ true
    → Each (λ entry. bytes_eq word entry.0 ≡ true → programless entry.1 ≡ true) entries
each-programless word plain [] all = tt
each-programless word plain (entry ∷ entries) all =
    let parts = and_parts (is_request_or_programless entry) (list_all is_request_or_programless entries) all in (
      (λ same. ⊎_elim
          (λ takes. absurd (false≢true (sym plain ∙ ap takes_program ((bytes_eq-Decides word entry.0).0 same) ∙ takes)))
          (λ none. none)
          (or_cases (takes_program entry.0) (programless entry.1) parts.0)),
      each-programless word plain entries parts.1,
    )

programless-forms : (script : Script) (word : List ℕ) → takes_program word ≡ false → list_all programless (forms_of script word) ≡ true
programless-forms script word plain = forms-pass programless word (line_forms script) (each-programless word plain (line_forms script) (each-request-or-programless script))

-- a line whose first word takes no program has none
no-program : (form : Option (List Field)) (given : List (List ℕ)) (text : List ℕ) → ((fields : List Field) → form ≡ Some fields → programless fields ≡ true)
    → Contains (fields_in form given) (fields.program, text) → ⊥
no-program None given text less has = Contains-nil (fields.program, text) has
no-program (Some form) given text less has = none-stands form given text (less form refl) has

plain-no-program : (script : Script) (line : TextLine) (text : List ℕ) → takes_program (first_word line) ≡ false → Has script line fields.program text → ⊥
plain-no-program script line text plain has =
    no-program (form_of script line) (arguments script line) text
    (λ form e. found-in programless _ (forms_of script (first_word line)) form (programless-forms script (first_word line) plain) (sym (form_of-look script line) ∙ e)) has

-- A line names an item to look at only where it begins with `peek`, in a live script.

unfoldable is_item : Field → Bool
is_item fields.item_name = true
is_item field = false

abbrev itemless : List Field → Bool
itemless form = list_all (λ field. not (is_item field)) form

no-item-in : (form : Option (List Field)) (given : List (List ℕ)) (text : List ℕ) → ((fields : List Field) → form ≡ Some fields → itemless fields ≡ true)
    → Contains (fields_in form given) (fields.item_name, text) → ⊥
unfolding is_item
no-item-in None given text less has = Contains-nil (fields.item_name, text) has
no-item-in (Some form) given text less has = none-such is_item fields.item_name refl form given text (less form refl) has

no-item-by : (script : Script) (line : TextLine) (text : List ℕ) → list_all itemless (forms_of script (first_word line)) ≡ true → Has script line fields.item_name text → ⊥
no-item-by script line text all has =
    no-item-in (form_of script line) (arguments script line) text
    (λ form e. found-in itemless _ (forms_of script (first_word line)) form all (sym (form_of-look script line) ∙ e)) has

-- It is the form of a look, or no item is named in it.
abbrev is_peek_or_itemless : List ℕ × List Field → Bool
is_peek_or_itemless entry = bytes_eq entry.0 (codes "peek") || itemless entry.1

each-peek-or-itemless : (script : Script) → list_all is_peek_or_itemless (line_forms script) ≡ true
unfolding line_forms is_item
each-peek-or-itemless scheduled = refl
each-peek-or-itemless live = refl

each-itemless : (word : List ℕ) → (word ≡ codes "peek" → ⊥) → (entries : List (List ℕ × List Field)) → list_all is_peek_or_itemless entries ≡ true
    → Each (λ entry. bytes_eq word entry.0 ≡ true → itemless entry.1 ≡ true) entries
each-itemless word other [] all = tt
each-itemless word other (entry ∷ entries) all =
    let parts = and_parts (is_peek_or_itemless entry) (list_all is_peek_or_itemless entries) all in (
      (λ same. ⊎_elim
          (λ peek. absurd (other ((bytes_eq-Decides word entry.0).0 same ∙ (bytes_eq-Decides entry.0 (codes "peek")).0 peek)))
          (λ none. none)
          (or_cases (bytes_eq entry.0 (codes "peek")) (itemless entry.1) parts.0)),
      each-itemless word other entries parts.1,
    )

pub no-item : (script : Script) (line : TextLine) (text : List ℕ) → (first_word line ≡ codes "peek" → ⊥) → Has script line fields.item_name text → ⊥
no-item script line text other has =
    no-item-by script line text (forms-pass itemless (first_word line) (line_forms script) (each-itemless (first_word line) other (line_forms script) (each-peek-or-itemless script))) has

each-scheduled-itemless : list_all (λ (entry : List ℕ × List Field). itemless entry.1) (line_forms scheduled) ≡ true
unfolding line_forms is_item
each-scheduled-itemless = refl

each-of-all : (word : List ℕ) (entries : List (List ℕ × List Field)) → list_all (λ entry. itemless entry.1) entries ≡ true
    → Each (λ entry. bytes_eq word entry.0 ≡ true → itemless entry.1 ≡ true) entries
each-of-all word [] all = tt
each-of-all word (entry ∷ entries) all =
    let parts = and_parts (itemless entry.1) (list_all (λ (one : List ℕ × List Field). itemless one.1) entries) all in
    (λ same. parts.0, each-of-all word entries parts.1)

pub no-item-scheduled : (line : TextLine) (text : List ℕ) → Has scheduled line fields.item_name text → ⊥
no-item-scheduled line text has =
    no-item-by scheduled line text (forms-pass itemless (first_word line) (line_forms scheduled) (each-of-all (first_word line) (line_forms scheduled) each-scheduled-itemless)) has

pub request-words : (word : List ℕ) → takes_program word ≡ true → (word ≡ codes "submit") ⊎ (word ≡ codes "query")
unfolding takes_program
request-words word takes =
    ⊎_elim inl (λ isnt. ⊎_elim inr (λ other. absurd (neither (bytes_eq word (codes "submit")) (bytes_eq word (codes "query")) takes
    (λ e. isnt ((bytes_eq-Decides word (codes "submit")).0 e)) (λ e. other ((bytes_eq-Decides word (codes "query")).0 e))))
    (decide-bytes word (codes "query"))) (decide-bytes word (codes "submit"))
  where
    neither : (a b : Bool) → (a || b) ≡ true → (a ≡ true → ⊥) → (b ≡ true → ⊥) → ⊥
    neither true b e x y = x refl
    neither false b e x y = y e

-- one form of so many words
pub one-form : (k n : ℕ) (only form : List Field) → cond (k == n) (Some only) None ≡ Some form → (k ≡ n) × (only ≡ form)
one-form k n only form e = go (k == n) refl e
  where
    go : (b : Bool) → (k == n) ≡ b → cond b (Some only) None ≡ Some form → (k ≡ n) × (only ≡ form)
    go true same found = (eqb-true k n same, let is : only ≡ form = cc in is)
    go false same found = let never : ⊥ = cc in absurd never

-- the form of requests
abbrev asked_form : Script → List Field
asked_form scheduled = fields.site ∷ fields.program ∷ []
asked_form live = fields.program ∷ []

abbrev RequestForm : Script → TextLine → List Field → Type 0
RequestForm script line form = (length (asked_form script) ≡ length (arguments script line)) × (asked_form script ≡ form)

request-form : (script : Script) (line : TextLine) (form : List Field) → takes_program (first_word line) ≡ true → form_of script line ≡ Some form → RequestForm script line form
unfolding line_forms
request-form scheduled line form takes found =
    let at : look scheduled (first_word line) (length (arguments scheduled line)) ≡ Some form = sym (form_of-look scheduled line) ∙ found in
    ⊎_elim
    (λ e. one-form 2 (length (arguments scheduled line)) (fields.site ∷ fields.program ∷ []) form (subst (λ (w : List ℕ). look scheduled w (length (arguments scheduled line)) ≡ Some form) e at))
    (λ e. one-form 2 (length (arguments scheduled line)) (fields.site ∷ fields.program ∷ []) form (subst (λ (w : List ℕ). look scheduled w (length (arguments scheduled line)) ≡ Some form) e at))
    (request-words (first_word line) takes)
request-form live line form takes found =
    let at : look live (first_word line) (length (arguments live line)) ≡ Some form = sym (form_of-look live line) ∙ found in
    ⊎_elim
    (λ e. one-form 1 (length (arguments live line)) (fields.program ∷ []) form (subst (λ (w : List ℕ). look live w (length (arguments live line)) ≡ Some form) e at))
    (λ e. one-form 1 (length (arguments live line)) (fields.program ∷ []) form (subst (λ (w : List ℕ). look live w (length (arguments live line)) ≡ Some form) e at))
    (request-words (first_word line) takes)

second-text : (text : List ℕ) (said : List (List ℕ)) → 2 ≡ length (site_and_text text said) → (at : List ℕ) × (site_and_text text said ≡ at ∷ text ∷ [])
second-text text [] e = absurd (omega (arith, e))
second-text text (at ∷ []) e = absurd (omega (arith, e))
second-text text (at ∷ word ∷ more) e = (at, refl)

only-text : (text : List ℕ) (said : List (List ℕ)) → 1 ≡ length (text_alone text said) → text_alone text said ≡ text ∷ []
only-text text [] e = absurd (omega (arith, e))
only-text text (word ∷ more) e = refl

pub arguments-request : (script : Script) (line : TextLine) → takes_program (first_word line) ≡ true
    → arguments script line ≡ with_text script (program_text script line) (later_words (words line))
unfolding arguments
arguments-request script line takes = rw takes refl

-- the fields of a line, by its form and what stands in it
fields-are : (script : Script) (line : TextLine) (form : List Field) (given : List (List ℕ)) → form_of script line ≡ Some form → arguments script line ≡ given
    → fields_of script line ≡ beside form given
fields-are script line form given found are = rw found (rw are refl)

-- a request has the text
stands : (script : Script) (line : TextLine) (form : List Field) → takes_program (first_word line) ≡ true → form_of script line ≡ Some form
    → Has script line fields.program (program_text script line)
stands scheduled line form takes found =
    let is = request-form scheduled line form takes found in
    let same = arguments-request scheduled line takes in
    let second = second-text (program_text scheduled line) (later_words (words line)) (is.0 ∙ ap (λ (ws : List (List ℕ)). length ws) same) in
    let given = second.0 ∷ program_text scheduled line ∷ [] in
    let all : fields_of scheduled line ≡ (fields.site, second.0) ∷ (fields.program, program_text scheduled line) ∷ [] =
    fields-are scheduled line form given found (same ∙ second.1) ∙ ap (λ (fields : List Field). beside fields given) (sym is.1) in
    subst (λ (entries : List (Field × List ℕ)). Contains entries (fields.program, program_text scheduled line)) (sym all)
    (Contains-behind (fields.site, second.0) ((fields.program, program_text scheduled line) ∷ []) (fields.program, program_text scheduled line)
    (Contains-first (fields.program, program_text scheduled line) []))
stands live line form takes found =
    let is = request-form live line form takes found in
    let same = arguments-request live line takes in
    let only = only-text (program_text live line) (later_words (words line)) (is.0 ∙ ap (λ (ws : List (List ℕ)). length ws) same) in
    let given = program_text live line ∷ [] in
    let all : fields_of live line ≡ (fields.program, program_text live line) ∷ [] =
    fields-are live line form given found (same ∙ only) ∙ ap (λ (fields : List Field). beside fields given) (sym is.1) in
    subst (λ (entries : List (Field × List ℕ)). Contains entries (fields.program, program_text live line)) (sym all)
    (Contains-first (fields.program, program_text live line) [])

-- the text that a line has, where it has a form
pub text-of : (script : Script) (line : TextLine) (form : List Field) (text : List ℕ) → form_of script line ≡ Some form → Has script line fields.program text
    → text ≡ program_text script line
text-of script line form text found has = go (takes_program (first_word line)) refl
  where
    go : (b : Bool) → takes_program (first_word line) ≡ b → text ≡ program_text script line
    go true takes = one-text script line text (program_text script line) has (stands script line form takes found)
    go false plain = absurd (plain-no-program script line text plain has)

-- What holds of each entry that a list has, element by element.

each-from : {X : Type 0} (P : X → Type 0) (xs : List X) → ((x : X) → Contains xs x → P x) → Each P xs
each-from P [] each = tt
each-from P (x ∷ xs) each = (each x (Contains-first x xs), each-from P xs (λ y c. each y (Contains-behind x xs y c)))

each-of : {X : Type 0} (q : X → Bool) (xs : List X) → list_all q xs ≡ true → Each (λ x. q x ≡ true) xs
each-of q [] all = tt
each-of q (x ∷ xs) all = (and-left (q x) (list_all q xs) all, each-of q xs (and-right (q x) (list_all q xs) all))

abbrev Free : Before → TextLine → Type 0
Free before line = (c : LineCause) → HasLineCause before line c → ⊥

free-good : (before : Before) (line : TextLine) → Free before line → (x : Field × List ℕ) → Contains (fields_of before.script line) x → has_good_number (or_default 0 before.sites) x ≡ true
free-good before line free x c =
    let all = isnt-false (list_all (has_good_number (or_default 0 before.sites)) (fields_of before.script line)) (free causes.bad_number) in
    Each-contains (λ x. has_good_number (or_default 0 before.sites) x ≡ true) (fields_of before.script line) x (each-of (has_good_number (or_default 0 before.sites)) (fields_of before.script line) all) c

free-text : (before : Before) (line : TextLine) → Free before line → IsText (most_bytes before.script) line
free-text before line free = record {
  short = short (decide-less (most_bytes before.script) (length line));
  bytes = isnt-false (list_all is_text_byte line) (free causes.not_text);
}
  where
    short : Decidable (most_bytes before.script < length line) → length line ≤ most_bytes before.script
    short (inl long) = absurd (free causes.too_long long)
    short (inr isnt) = by (most_bytes before.script) (length line) isnt
      where
        by : (m n : ℕ) → (m < n → ⊥) → n ≤ m
        by m n isnt = omega (arith, isnt)

free-form : (before : Before) (line : TextLine) → Free before line → (form : List Field) × (form_of before.script line ≡ Some form)
free-form before line free = go (form_of before.script line) refl
  where
    go : (o : Option (List Field)) → form_of before.script line ≡ o → (form : List Field) × (form_of before.script line ≡ Some form)
    go None e = absurd (free causes.wrong_count e)
    go (Some form) e = (form, e)

abbrev SomeOf : Before → TextLine → List ℕ → Type 0
SomeOf before line text = (p : Program) × IsProgramText (declared_by before) text p

free-program : (before : Before) (line : TextLine) → Free before line → (text : List ℕ) → Has before.script line fields.program text → SomeOf before line text
free-program before line free text has = ⊎_elim (λ p. p) (λ r. absurd (refused r.0 r.1)) (some_answer (declared_by before) text)
  where
    refused : (r : Refusal) → IsRefused (declared_by before) text r → ⊥
    refused (too_large n) is =
        let form = free-form before line free in
        let same = ap (λ (t : List ℕ). length t) (text-of before.script line form.0 text form.1 has) in
        omega (arith, same, is.0, is.1, length-program_text before.script line, (free-text before line free).short, most_bytes-le before.script)
    refused (at_fault kind column) is = free (causes.at_program kind column) (text, has, is)

free-runs : (before : Before) (line : TextLine) → Free before line → (p : Program) → HasProgram before line p → Runs p (first_word line)
free-runs before line free p has =
    let some = some_items p in
    record {
      items = some.0;
      are = some.1;
      some = more some.0 some.1;
      few = by (length some.0) (λ many. free (causes.too_many_names (length some.0)) (p, has, some.0, some.1, refl, many));
      answers = λ query. (isnt-true (has_assignment p) (λ is. free causes.query_assigns (p, has, query, is)), isnt-false (has_return p) (λ is. free causes.no_return (p, has, query, is)));
    }
  where
    more : (items : List ℕ) → AreItems p items → 0 < length items
    more [] are = absurd (free causes.names_no_item (p, has, names_item-none p are))
    more (n ∷ items) are = omega arith

    by : (n : ℕ) → (MAX_PROGRAM_ITEMS < n → ⊥) → n ≤ MAX_PROGRAM_ITEMS
    by n isnt = omega (arith, isnt)

free-suits : (before : Before) (line : TextLine) → Free before line → (x : Field × List ℕ) → Contains (fields_of before.script line) x → Suits before (first_word line) x
free-suits before line free (fields.number least most, w) c = free-good before line free (fields.number least most, w) c
free-suits before line free (fields.site, w) c = free-good before line free (fields.site, w) c
free-suits before line free (fields.value, w) c = free-good before line free (fields.value, w) c
free-suits before line free (fields.mode, w) c = ⊎_elim (λ is. is) (λ isnt. absurd (free causes.bad_mode (w, c, isnt))) (decide-contains mode_words w)
free-suits before line free (fields.name, w) c =
    (isnt-false (is_name w) (λ is. free causes.bad_name (w, c, is)), ⊎_elim (λ is. is) (λ isnt. absurd (free causes.name_taken (w, c, isnt))) (decide-nothing (place_of w before.items)))
free-suits before line free (fields.item_name, w) c = go (place_of w before.items) refl
  where
    at : (place : ℕ) → place_of w before.items ≡ Some place → Decidable (home_of before.items place ≡ last_site before.clients) → Suits before (first_word line) (fields.item_name, w)
    at place found (inl here) = (place, found, here)
    at place found (inr elsewhere) = absurd (free causes.other_site (w, place, c, found, elsewhere))

    go : (found : Option ℕ) → place_of w before.items ≡ found → Suits before (first_word line) (fields.item_name, w)
    go None e = absurd (free causes.no_such_item (w, c, e))
    go (Some place) e = at place e (decide-number (home_of before.items place) (last_site before.clients))
free-suits before line free (fields.program, w) c =
    let some = free-program before line free w c in
    (some.0, some.1, free-runs before line free some.0 (w, c, some.1))

pub free-fits : (before : Before) (line : TextLine) → ((c : LineCause) → HasLineCause before line c → ⊥) → Fits before line
free-fits before line free =
    let form = free-form before line free in
    record {
      text = free-text before line free;
      said = λ none. ⊎_elim (λ is. is) (λ isnt. absurd (free causes.sites_expected (none, isnt))) (decide-bytes (first_word line) (codes "sites"));
      once = free causes.twice;
      early = free causes.too_late;
      asked = free causes.client_expected;
      fewer = free causes.too_many_clients;
      next = free causes.too_many_requests;
      form = form.0;
      known = free causes.unknown_word;
      formed = form.1;
      each = each-from (Suits before (first_word line)) (fields_of before.script line) (free-suits before line free);
      room = λ item. by (length before.items) (λ many. free causes.too_many_items (item, many));
    }
  where
    by : (n : ℕ) → (MAX_ITEMS ≤ n → ⊥) → n < MAX_ITEMS
    by n isnt = omega (arith, isnt)
