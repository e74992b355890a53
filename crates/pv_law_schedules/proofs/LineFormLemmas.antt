-- Lines that have no cause: what their first words, forms and fields are.
use Rattle.std.proofs.Common.{◌≡◌, ⊎_elim, ℕ, ◌<◌, ◌≤◌, Bool, true, false, Option, Some, None, List, [], ◌∷◌, length, refl, sym, ap, subst, ◌∙◌, arith}
use Rattle.std.specs.Prelude.{◌==◌, ◌||◌, find, codes}
use Rattle.std.specs.List.{list_all, Contains}
use Rattle.std.specs.Cmp.Derive.{both_true}
use Rattle.std.specs.Str.{bytes_eq}
use Rattle.std.proofs.lemmas.Bool.{false≢true, le-leb, lt-ltb}
use Rattle.pv_base.specs.declared.limits.TheConstants.{MAX_ITEMS, MAX_PROGRAM_ITEMS}
use Rattle.pv_base.specs.Catalog.{place_of}
use Rattle.pv_base.specs.Name.{is_digit, is_name}
use Rattle.pv_model.specs.LineCauses as causes
use Rattle.pv_model.specs.LineCauses.{Before, or_default, declared_by, last_site, home_of, LineCause, HasFirstWord, HasLineCause, HasProgram, mode_words}
use Rattle.pv_model.specs.Check.{names_item, AreItems, has_assignment, has_return}
use Rattle.pv_model.specs.LineForms.{Script, scheduled, live, most_bytes, Field, number, site, value, mode, name, item_name, program, leading_word, first_word, forms_of, takes_program, arguments, form_of, fields_of, beside, are_digits, has_good_number}
use Rattle.pv_model.specs.ProgramText.{IsProgramText, at_fault}
use Rattle.pv_model.specs.Schedule.{IsIn, IsDeclaredSite}
use Rattle.pv_model.specs.Syntax.{Program}
use Rattle.pv_model.specs.Text.{TextLine, words, IsText, number_of_digits}
use Rattle.pv_base.proofs.Basics.{Some_inj}
use Rattle.pv_base.proofs.ContainsLemmas.{Contains-nil, Contains-cases}
use Rattle.pv_law_programs.proofs.ItemLemmas.{one_items}
use Rattle.pv_law_programs.proofs.NoRefusalLemmas.{no_refusal}
use Rattle.pv_law_programs.proofs.ProgramTextLemmas.{one_program_text}

-- this holds of each element, element by element
abbrev pub Each : {X : Type 0} → (X → Type 0) → List X → Type 0
Each P [] = Unit {0}
Each P (x ∷ xs) = P x × Each P xs

pub Each-contains : {X : Type 0} (P : X → Type 0) (xs : List X) (x : X) → Each P xs → Contains xs x → P x
Each-contains P [] x each c = absurd (Contains-nil x c)
Each-contains P (y ∷ ys) x each c =
    ⊎_elim (λ same. subst P same each.0) (λ behind. Each-contains P ys x each.1 behind) (Contains-cases y ys x c)

-- the program of a request may run
pub record Runs (p : Program) (word : List ℕ) : Type 0 where
  pub items : List ℕ
  pub are : AreItems p items
  pub some : 0 < length items
  pub few : length items ≤ MAX_PROGRAM_ITEMS
  pub answers : word ≡ codes "query" → (has_assignment p ≡ false) × (has_return p ≡ true)

-- What stands in a field of a line with this first word may stand there.
abbrev pub Suits : Before → List ℕ → Field × List ℕ → Type 0
Suits before word (number least most, w) = has_good_number (or_default 0 before.sites) (number least most, w) ≡ true
Suits before word (site, w) = has_good_number (or_default 0 before.sites) (site, w) ≡ true
Suits before word (value, w) = has_good_number (or_default 0 before.sites) (value, w) ≡ true
Suits before word (mode, w) = Contains mode_words w
Suits before word (name, w) = (is_name w ≡ true) × (place_of w before.items ≡ None)
Suits before word (item_name, w) =
    (place : ℕ) × (place_of w before.items ≡ Some place) × (home_of before.items place ≡ last_site before.clients)
Suits before word (program, text) = (p : Program) × IsProgramText (declared_by before) text p × Runs p word

-- the line has no cause
pub record Fits (before : Before) (line : TextLine) : Type 0 where
  pub text : IsText (most_bytes before.script) line
  pub said : before.sites ≡ None → first_word line ≡ codes "sites"
  pub once : HasLineCause before line causes.twice → ⊥
  pub early : HasLineCause before line causes.too_late → ⊥
  pub asked : HasLineCause before line causes.client_expected → ⊥
  pub fewer : HasLineCause before line causes.too_many_clients → ⊥
  pub next : HasLineCause before line causes.too_many_requests → ⊥
  pub form : List Field
  pub known : forms_of before.script (first_word line) ≡ [] → ⊥
  pub formed : form_of before.script line ≡ Some form
  pub each : Each (Suits before (first_word line)) (fields_of before.script line)
  pub room : first_word line ≡ codes "item" → length before.items < MAX_ITEMS

-- numbers that suit

pub are_digits-of : (w : List ℕ) → 0 < length w → list_all is_digit w ≡ true → are_digits w ≡ true
are_digits-of [] some digits = absurd (omega (arith, some))
are_digits-of (b ∷ bs) some digits = digits

pub good-in : (sites least most : ℕ) (w : List ℕ) (n : ℕ) → IsIn least most w n → has_good_number sites (number least most, w) ≡ true
good-in sites least most w n is =
    let low : least ≤ number_of_digits w = omega (arith, is.0.value, is.1) in
    let high : number_of_digits w ≤ most = omega (arith, is.0.value, is.2) in
    both_true (are_digits-of w is.0.some is.0.digits) (both_true (le-leb least (number_of_digits w) low) (le-leb (number_of_digits w) most high))

pub good-site : (before : Before) (w : List ℕ) (n : ℕ) → IsDeclaredSite before w n → has_good_number (or_default 0 before.sites) (site, w) ≡ true
good-site before w n is =
    let low : number_of_digits w < or_default 0 before.sites = subst (λ (m : ℕ). m < or_default 0 before.sites) is.0.value is.1 in
    both_true (are_digits-of w is.0.some is.0.digits) (lt-ltb (number_of_digits w) (or_default 0 before.sites) low)

-- the form of a line, by its first word and what stands behind it

abbrev pub look : Script → List ℕ → ℕ → Option (List Field)
look script word n = find (λ form. length form == n) (forms_of script word)

look-known : (script : Script) (word : List ℕ) (n : ℕ) (form : List Field) → look script word n ≡ Some form → forms_of script word ≡ [] → ⊥
look-known script word n form found none =
    let at : find (λ (form : List Field). length form == n) [] ≡ Some form = subst (λ (forms : List (List Field)). find (λ form. length form == n) forms ≡ Some form) none found in
    let never : ⊥ = cc in never

pub look-known-line : (script : Script) (line : TextLine) (word : List ℕ) (n : ℕ) (form : List Field) → first_word line ≡ word → look script word n ≡ Some form
    → forms_of script (first_word line) ≡ [] → ⊥
look-known-line script line word n form first found none = look-known script word n form found (ap (forms_of script) (sym first) ∙ none)

pub form_of-look : (script : Script) (line : TextLine) → form_of script line ≡ look script (first_word line) (length (arguments script line))
unfolding form_of
form_of-look script line = refl

pub arguments-plain : (script : Script) (line : TextLine) (word : List ℕ) (given : List (List ℕ)) → takes_program word ≡ false → words line ≡ word ∷ given
    → arguments script line ≡ given
unfolding arguments
arguments-plain script line word given plain is = rw is (rw plain refl)

pub form-at : (script : Script) (line : TextLine) (word : List ℕ) (given : List (List ℕ)) (form : Option (List Field)) → first_word line ≡ word
    → arguments script line ≡ given → look script word (length given) ≡ form → form_of script line ≡ form
form-at script line word given form first are found = form_of-look script line ∙ (rw first (rw are found))

-- first words that declare something
abbrev pub is_declaring : List ℕ → Bool
is_declaring word =
    bytes_eq word (codes "sites")
    || (bytes_eq word (codes "journal") || (bytes_eq word (codes "item") || (bytes_eq word (codes "plan") || bytes_eq word (codes "client"))))

pub declares-sites : (word : List ℕ) → is_declaring word ≡ false → word ≡ codes "sites" → ⊥
declares-sites word isnt is = false≢true (sym isnt ∙ ap is_declaring is)

pub declares-journal : (word : List ℕ) → is_declaring word ≡ false → word ≡ codes "journal" → ⊥
declares-journal word isnt is = false≢true (sym isnt ∙ ap is_declaring is)

pub declares-item : (word : List ℕ) → is_declaring word ≡ false → word ≡ codes "item" → ⊥
declares-item word isnt is = false≢true (sym isnt ∙ ap is_declaring is)

pub declares-plan : (word : List ℕ) → is_declaring word ≡ false → word ≡ codes "plan" → ⊥
declares-plan word isnt is = false≢true (sym isnt ∙ ap is_declaring is)

pub declares-client : (word : List ℕ) → is_declaring word ≡ false → word ≡ codes "client" → ⊥
declares-client word isnt is = false≢true (sym isnt ∙ ap is_declaring is)

pub none-some-sites : (o : Option ℕ) (n : ℕ) → o ≡ Some n → o ≡ None → ⊥
none-some-sites o n some none = cc

pub kinds-differ : scheduled ≡ live → ⊥
kinds-differ e = cc

-- The form of a line in a script of a kind.
pub look-kind : {form : Option (List Field)} (before : Before) (kind : Script) (word : List ℕ) (n : ℕ) → before.script ≡ kind → look kind word n ≡ form
    → look before.script word n ≡ form
look-kind before kind word n is found = ap (λ (s : Script). look s word n) is ∙ found

-- What a wish of a client may lack in a live script, the line doesn't.
pub record IsFree (before : Before) (line : TextLine) : Type 0 where
  pub asked : HasLineCause before line causes.client_expected → ⊥
  pub next : HasLineCause before line causes.too_many_requests → ⊥

-- A line of a schedule is no wish of a client.
pub schedule-free : (before : Before) (line : TextLine) → (before.script ≡ live → ⊥) → IsFree before line
schedule-free before line isnt = record { asked = λ has. isnt has.0.0; next = λ has. isnt has.0.0 }

-- a line that declares nothing but, maybe, what a client wants
pub fits-formed : (before : Before) (line : TextLine) (n : ℕ) (word : List ℕ) (form : List Field) (given : List (List ℕ))
    → IsText (most_bytes before.script) line → before.sites ≡ Some n → is_declaring word ≡ false → first_word line ≡ word → arguments before.script line ≡ given
    → look before.script word (length given) ≡ Some form → Each (Suits before word) (beside form given) → IsFree before line → Fits before line
fits-formed before line n word form given text said isnt first are found each free = record {
  text = text;
  said = λ none. absurd (none-some-sites before.sites n said none);
  once = ⊎_elim (λ c. declares-sites word isnt (sym first ∙ c.0))
      (⊎_elim (λ c. declares-journal word isnt (sym first ∙ c.0)) (λ c. declares-plan word isnt (sym first ∙ c.0)));
  early = λ c. ⊎_elim (λ j. declares-journal word isnt (sym first ∙ j))
      (⊎_elim (λ i. declares-item word isnt (sym first ∙ i)) (λ p. declares-plan word isnt (sym first ∙ p))) c.0;
  asked = free.asked;
  fewer = λ c. declares-client word isnt (sym first ∙ c.0);
  next = free.next;
  form = form;
  known = look-known-line before.script line word (length given) form first found;
  formed = form-at before.script line word given (Some form) first are found;
  each = rw (form-at before.script line word given (Some form) first are found) (rw first (rw are each));
  room = λ item. absurd (declares-item word isnt (sym first ∙ item));
}

pub fits-plain : (before : Before) (line : TextLine) (n : ℕ) (word : List ℕ) (form : List Field) (given : List (List ℕ))
    → IsText (most_bytes before.script) line → before.sites ≡ Some n → is_declaring word ≡ false → takes_program word ≡ false
    → look before.script word (length given) ≡ Some form → words line ≡ word ∷ given → Each (Suits before word) (beside form given) → IsFree before line → Fits before line
fits-plain before line n word form given text said isnt plain found is each free =
    fits-formed before line n word form given text said isnt (ap leading_word is) (arguments-plain before.script line word given plain is) found each free

-- A line that fits has no cause.

suits-good : (before : Before) (word : List ℕ) (fields : List (Field × List ℕ)) → Each (Suits before word) fields → list_all (has_good_number (or_default 0 before.sites)) fields ≡ true
suits-good before word [] each = refl
suits-good before word ((number least most, w) ∷ fields) each = both_true each.0 (suits-good before word fields each.1)
suits-good before word ((site, w) ∷ fields) each = both_true each.0 (suits-good before word fields each.1)
suits-good before word ((value, w) ∷ fields) each = both_true each.0 (suits-good before word fields each.1)
suits-good before word ((mode, w) ∷ fields) each = both_true refl (suits-good before word fields each.1)
suits-good before word ((name, w) ∷ fields) each = both_true refl (suits-good before word fields each.1)
suits-good before word ((item_name, w) ∷ fields) each = both_true refl (suits-good before word fields each.1)
suits-good before word ((program, w) ∷ fields) each = both_true refl (suits-good before word fields each.1)

-- the program of the line is the one that suits
fits-program : (before : Before) (line : TextLine) (p : Program) → Fits before line → HasProgram before line p → Runs p (first_word line)
fits-program before line p fits has =
    let suits : Suits before (first_word line) (program, has.0) = Each-contains (Suits before (first_word line)) (fields_of before.script line) (program, has.0) fits.each has.1 in
    subst (λ (q : Program). Runs q (first_word line)) (one_program_text (declared_by before) has.0 suits.0 p suits.1 has.2) suits.2

pub first-item : (p : Program) (items : List ℕ) → AreItems p items → 0 < length items → ((n : ℕ) → names_item p n ≡ false) → ⊥
first-item p [] are some none = omega (arith, some)
first-item p (n ∷ items) are some none = false≢true (sym (none n) ∙ are.each 0 n (omega arith))

pub fits-no-cause : (before : Before) (line : TextLine) (cause : LineCause) → Fits before line → HasLineCause before line cause → ⊥
fits-no-cause before line causes.too_long fits has = omega (arith, fits.text.short, has)
fits-no-cause before line causes.not_text fits has = false≢true (sym has ∙ fits.text.bytes)
fits-no-cause before line causes.sites_expected fits has = has.1 (fits.said has.0)
fits-no-cause before line causes.unknown_word fits has = fits.known has
fits-no-cause before line causes.twice fits has = fits.once has
fits-no-cause before line causes.too_late fits has = fits.early has
fits-no-cause before line causes.wrong_count fits has = let some : form_of before.script line ≡ Some fits.form = fits.formed in let never : ⊥ = cc in never
fits-no-cause before line causes.client_expected fits has = fits.asked has
fits-no-cause before line causes.too_many_clients fits has = fits.fewer has
fits-no-cause before line causes.too_many_requests fits has = fits.next has
fits-no-cause before line causes.no_such_item fits has =
    let suits : Suits before (first_word line) (item_name, has.0) = Each-contains (Suits before (first_word line)) (fields_of before.script line) (item_name, has.0) fits.each has.1 in
    none-some-sites (place_of has.0 before.items) suits.0 suits.1 has.2
fits-no-cause before line causes.other_site fits has =
    let suits : Suits before (first_word line) (item_name, has.0) = Each-contains (Suits before (first_word line)) (fields_of before.script line) (item_name, has.0) fits.each has.2 in
    let same : suits.0 ≡ has.1 = Some_inj (sym suits.1 ∙ has.3) in
    has.4 (ap (home_of before.items) (sym same) ∙ suits.2)
fits-no-cause before line causes.bad_number fits has = false≢true (sym has ∙ suits-good before (first_word line) (fields_of before.script line) fits.each)
fits-no-cause before line causes.bad_mode fits has = has.2 (Each-contains (Suits before (first_word line)) (fields_of before.script line) (mode, has.0) fits.each has.1)
fits-no-cause before line causes.bad_name fits has =
    let suits = Each-contains (Suits before (first_word line)) (fields_of before.script line) (name, has.0) fits.each has.1 in
    false≢true (sym has.2 ∙ suits.0)
fits-no-cause before line causes.name_taken fits has =
    let suits = Each-contains (Suits before (first_word line)) (fields_of before.script line) (name, has.0) fits.each has.1 in
    has.2 suits.1
fits-no-cause before line causes.too_many_items fits has = omega (arith, fits.room has.0, has.1)
fits-no-cause before line (causes.at_program kind column) fits has =
    let suits = Each-contains (Suits before (first_word line)) (fields_of before.script line) (program, has.0) fits.each has.1 in
    no_refusal (declared_by before) has.0 suits.0 (at_fault kind column) suits.1 has.2
fits-no-cause before line causes.names_no_item fits has =
    let runs = fits-program before line has.0 fits has.1 in
    first-item has.0 runs.items runs.are runs.some has.2
fits-no-cause before line (causes.too_many_names n) fits has =
    let runs = fits-program before line has.0 fits has.1 in
    let same : length runs.items ≡ length has.2 = ap (λ (l : List ℕ). length l) (one_items has.0 runs.items has.2 runs.are has.3) in
    omega (arith, same, runs.few, has.4, has.5)
fits-no-cause before line causes.query_assigns fits has =
    let runs = fits-program before line has.0 fits has.1 in
    false≢true (sym (runs.answers has.2).0 ∙ has.3)
fits-no-cause before line causes.no_return fits has =
    let runs = fits-program before line has.0 fits has.1 in
    false≢true (sym has.3 ∙ (runs.answers has.2).1)
fits-no-cause before line causes.not_a_trace fits has = has
