-- The causes of a line, in their order: where the first ones don't hold, a later one is the first that may.
use Rattle.std.proofs.Common.{◌≡◌, ◌≢◌, ℕ, ◌<◌, ◌≤◌, true, false, Option, Some, List, [], ◌∷◌, length, refl, sym, ap, ◌∙◌, subst, arith, find}
use Rattle.std.specs.Prelude.{◌==◌, codes}
use Rattle.std.specs.List.{list_all, Contains}
use Rattle.std.proofs.lemmas.Option.{none-some}
use Rattle.std.proofs.lemmas.Bool.{both_ways}
use Rattle.pv_model.specs.LineCauses as model
use Rattle.pv_model.specs.LineCauses.{Before, too_long, not_text, sites_expected, unknown_word, twice, too_late, wrong_count, client_expected, too_many_clients, too_many_requests, no_such_item, other_site, bad_number, bad_mode, bad_name, name_taken, too_many_items, at_program, names_no_item, too_many_names, query_assigns, line_cause_rank, Has, HasLineCause, or_default}
use Rattle.pv_model.specs.LineForms.{Script, scheduled, most_bytes, with_text, Field, mode, item_name, leading_word, first_word, forms_of, takes_program, is_wished, program_text, arguments, form_of, fields_in, fields_of, has_good_number}
use Rattle.pv_model.specs.ProgramText.{Kind}
use Rattle.pv_law_schedules.proofs.LineFormLemmas.{kinds-differ}
use Rattle.pv_law_schedules.proofs.NoCauseLemmas.{no-item, no-item-scheduled}
use Rattle.pv_model.specs.Text.{TextLine, is_text_byte, IsText, words}
use Rattle.pv_script.specs.ScriptErrors.{line_cause_of}
use Rattle.pv_script.specs.LineFaults.{form_among, IsFieldFault, IsLineFault}
use Rattle.pv_script.specs.Said.{IsHead}
use Rattle.pv_script.specs.declared.fault.Fault.TheVariants.{At}
use Rattle.pv_script.specs.declared.schedule.LineCause.{LineCause}
use Rattle.pv_script.specs.declared.schedule.LineCause.TheVariants.{TooLong, NotText, UnknownWord, WrongCount, BadNumber, BadMode}

-- No cause of a lower rank holds.
abbrev pub NoneBefore : Before → TextLine → ℕ → Type 0
NoneBefore before line r = (cause : model.LineCause) → HasLineCause before line cause → r ≤ line_cause_rank cause

module _ (before : Before) (line : TextLine) where
  pub none0 : NoneBefore before line 0
  none0 cause has = omega arith

  pub none1 : (HasLineCause before line too_long → ⊥) → NoneBefore before line 1
  none1 refuted too_long has = absurd (refuted has)
  none1 refuted cause has = omega arith

  pub none2 : NoneBefore before line 1 → (HasLineCause before line not_text → ⊥) → NoneBefore before line 2
  none2 none refuted not_text has = absurd (refuted has)
  none2 none refuted cause has = let more = none cause has in omega arith

  pub none3 : NoneBefore before line 2 → (HasLineCause before line sites_expected → ⊥) → NoneBefore before line 3
  none3 none refuted sites_expected has = absurd (refuted has)
  none3 none refuted cause has = let more = none cause has in omega arith

  pub none4 : NoneBefore before line 3 → (HasLineCause before line unknown_word → ⊥) → NoneBefore before line 4
  none4 none refuted unknown_word has = absurd (refuted has)
  none4 none refuted cause has = let more = none cause has in omega arith

  pub none5 : NoneBefore before line 4 → (HasLineCause before line twice → ⊥) → NoneBefore before line 5
  none5 none refuted twice has = absurd (refuted has)
  none5 none refuted cause has = let more = none cause has in omega arith

  pub none6 : NoneBefore before line 5 → (HasLineCause before line too_late → ⊥) → NoneBefore before line 6
  none6 none refuted too_late has = absurd (refuted has)
  none6 none refuted cause has = let more = none cause has in omega arith

  pub none7 : NoneBefore before line 6 → (HasLineCause before line wrong_count → ⊥) → NoneBefore before line 7
  none7 none refuted wrong_count has = absurd (refuted has)
  none7 none refuted cause has = let more = none cause has in omega arith

  pub none8 : NoneBefore before line 7 → (HasLineCause before line client_expected → ⊥) → NoneBefore before line 8
  none8 none refuted client_expected has = absurd (refuted has)
  none8 none refuted cause has = let more = none cause has in omega arith

  pub none9 : NoneBefore before line 8 → (HasLineCause before line too_many_clients → ⊥) → NoneBefore before line 9
  none9 none refuted too_many_clients has = absurd (refuted has)
  none9 none refuted cause has = let more = none cause has in omega arith

  pub none10 : NoneBefore before line 9 → (HasLineCause before line too_many_requests → ⊥) → NoneBefore before line 10
  none10 none refuted too_many_requests has = absurd (refuted has)
  none10 none refuted cause has = let more = none cause has in omega arith

  pub none11 : NoneBefore before line 10 → (HasLineCause before line no_such_item → ⊥) → NoneBefore before line 11
  none11 none refuted no_such_item has = absurd (refuted has)
  none11 none refuted cause has = let more = none cause has in omega arith

  pub none12 : NoneBefore before line 11 → (HasLineCause before line other_site → ⊥) → NoneBefore before line 12
  none12 none refuted other_site has = absurd (refuted has)
  none12 none refuted cause has = let more = none cause has in omega arith

  pub none13 : NoneBefore before line 12 → (HasLineCause before line bad_number → ⊥) → NoneBefore before line 13
  none13 none refuted bad_number has = absurd (refuted has)
  none13 none refuted cause has = let more = none cause has in omega arith

  pub none14 : NoneBefore before line 13 → (HasLineCause before line bad_mode → ⊥) → NoneBefore before line 14
  none14 none refuted bad_mode has = absurd (refuted has)
  none14 none refuted cause has = let more = none cause has in omega arith

  pub none15 : NoneBefore before line 14 → (HasLineCause before line bad_name → ⊥) → NoneBefore before line 15
  none15 none refuted bad_name has = absurd (refuted has)
  none15 none refuted cause has = let more = none cause has in omega arith

  pub none16 : NoneBefore before line 15 → (HasLineCause before line name_taken → ⊥) → NoneBefore before line 16
  none16 none refuted name_taken has = absurd (refuted has)
  none16 none refuted cause has = let more = none cause has in omega arith

  pub none17 : NoneBefore before line 16 → (HasLineCause before line too_many_items → ⊥) → NoneBefore before line 17
  none17 none refuted too_many_items has = absurd (refuted has)
  none17 none refuted cause has = let more = none cause has in omega arith

  pub none18 : NoneBefore before line 17 → ((kind : Kind) (column : ℕ) → HasLineCause before line (at_program kind column) → ⊥) → NoneBefore before line 18
  none18 none refuted (at_program kind column) has = absurd (refuted kind column has)
  none18 none refuted cause has = let more = none cause has in omega arith

  pub none19 : NoneBefore before line 18 → (HasLineCause before line names_no_item → ⊥) → NoneBefore before line 19
  none19 none refuted names_no_item has = absurd (refuted has)
  none19 none refuted cause has = let more = none cause has in omega arith

  pub none20 : NoneBefore before line 19 → ((n : ℕ) → HasLineCause before line (too_many_names n) → ⊥) → NoneBefore before line 20
  none20 none refuted (too_many_names n) has = absurd (refuted n has)
  none20 none refuted cause has = let more = none cause has in omega arith

  pub none21 : NoneBefore before line 20 → (HasLineCause before line query_assigns → ⊥) → NoneBefore before line 21
  none21 none refuted query_assigns has = absurd (refuted has)
  none21 none refuted cause has = let more = none cause has in omega arith

-- ---- what is reported first

pub reported : (before : Before) (line : TextLine) (cause : LineCause) → HasLineCause before line (line_cause_of cause)
    → NoneBefore before line (line_cause_rank (line_cause_of cause)) → IsLineFault before line (At cause)
reported before line cause has none = record { has = has; first = none }

pub IsLineFault-long : (before : Before) (line : TextLine) → most_bytes before.script < length line → IsLineFault before line (At TooLong)
IsLineFault-long before line long = reported before line TooLong long (none0 before line)

none-long : (before : Before) (line : TextLine) → length line ≤ most_bytes before.script → NoneBefore before line 1
none-long before line short = none1 before line (λ has. absurd (omega arith))

pub IsLineFault-bytes : (before : Before) (line : TextLine) → length line ≤ most_bytes before.script → list_all is_text_byte line ≡ false → IsLineFault before line (At NotText)
IsLineFault-bytes before line short bytes = reported before line NotText bytes (none-long before line short)

pub none-text : (before : Before) (line : TextLine) → IsText (most_bytes before.script) line → NoneBefore before line 2
none-text before line is = none2 before line (none-long before line is.short) (λ bytes. both_ways (list_all is_text_byte line) bytes is.bytes)

-- a line behind the count of sites
pub none-said : (before : Before) (line : TextLine) (sites : ℕ) → IsText (most_bytes before.script) line → before.sites ≡ Some sites → NoneBefore before line 3
none-said before line sites is said = none3 before line (none-text before line is) (λ has. none-some sites (sym has.0 ∙ said))

pub IsLineFault-unknown : (before : Before) (line : TextLine) (sites : ℕ) → IsText (most_bytes before.script) line → before.sites ≡ Some sites → forms_of before.script (first_word line) ≡ []
    → IsLineFault before line (At UnknownWord)
IsLineFault-unknown before line sites is said unknown = reported before line UnknownWord unknown (none-said before line sites is said)

-- ---- the words of a line

pub first-line : (line word : List ℕ) (args : List (List ℕ)) → words line ≡ word ∷ args → first_word line ≡ word
first-line line word args are = ap leading_word are

pub arguments-line : (script : Script) (line word : List ℕ) (args : List (List ℕ)) → words line ≡ word ∷ args → takes_program word ≡ false → arguments script line ≡ args
unfolding arguments
arguments-line script line word args are plain = rw (are, plain) refl

pub arguments-request : (script : Script) (line word : List ℕ) (args : List (List ℕ)) → words line ≡ word ∷ args → takes_program word ≡ true
    → arguments script line ≡ with_text script (program_text script line) args
unfolding arguments
arguments-request script line word args are takes = rw (are, takes) refl

pub form_of-line : (script : Script) (line word : List ℕ) (args given : List (List ℕ)) → words line ≡ word ∷ args → arguments script line ≡ given
    → form_of script line ≡ form_among (forms_of script word) given
unfolding form_of
form_of-line script line word args given are same =
    ap (λ (ws : List (List ℕ)). find (λ (form : List Field). length form == length ws) (forms_of script (first_word line))) same
    ∙ ap (λ (w : List ℕ). form_among (forms_of script w) given) (first-line line word args are)

pub fields_of-line : (script : Script) (line word : List ℕ) (args given : List (List ℕ)) → words line ≡ word ∷ args → arguments script line ≡ given
    → fields_of script line ≡ fields_in (form_among (forms_of script word) given) given
fields_of-line script line word args given are same =
    ap (λ (ws : List (List ℕ)). fields_in (form_of script line) ws) same
    ∙ ap (λ (form : Option (List Field)). fields_in form given) (form_of-line script line word args given are same)

-- A line behind the count of sites has these words; what stands behind the first one is given.
pub record IsGiven (before : Before) (line : TextLine) (word : List ℕ) (args given : List (List ℕ)) : Type 0 where
  pub head : IsHead before line word args
  pub same : arguments before.script line ≡ given
  pub known : forms_of before.script word ≢ []

pub none-known : (before : Before) (line : TextLine) (word : List ℕ) (args : List (List ℕ)) → IsHead before line word args → forms_of before.script word ≢ []
    → NoneBefore before line 4
none-known before line word args head known =
    none4 before line (none-said before line head.sites head.text head.said)
    (λ unknown. known (ap (forms_of before.script) (sym (first-line line word args head.words)) ∙ unknown))

-- No cause that a live script alone has comes between the count of the words and their numbers.
abbrev pub NoneBetween : Before → TextLine → Type 0
NoneBetween before line = NoneBefore before line 7 → NoneBefore before line 12

-- A line in which no item is named to be looked at has neither of the causes of such a name.
pub none-named_item : (before : Before) (line : TextLine) → ((word : List ℕ) → Has before.script line item_name word → ⊥) → NoneBefore before line 10 → NoneBefore before line 12
none-named_item before line unnamed none =
    none12 before line (none11 before line none (λ has. unnamed has.0 has.1)) (λ has. unnamed has.0 has.2)

peek-wished : (word : List ℕ) → is_wished word ≡ false → word ≡ codes "peek" → ⊥
unfolding is_wished takes_program
peek-wished word plain is = both_ways (is_wished word) plain (ap is_wished is)

-- A line whose first word is neither of what a client wants nor `client` has none of these causes.
pub none-between : (before : Before) (line : TextLine) (word : List ℕ) → first_word line ≡ word → is_wished word ≡ false → (word ≡ codes "client" → ⊥)
    → NoneBetween before line
none-between before line word first plain other none =
    none-named_item before line (λ name. no-item before.script line name (λ is. peek-wished word plain (sym first ∙ is)))
    (none10 before line
    (none9 before line
    (none8 before line none (λ has. both_ways (is_wished word) plain (ap is_wished (sym first) ∙ has.0.1)))
    (λ has. other (sym first ∙ has.0)))
    (λ has. both_ways (is_wished word) plain (ap is_wished (sym first) ∙ has.0.1)))

-- Nor has a line of a schedule.
pub none-scheduled : (before : Before) (line : TextLine) (word : List ℕ) → before.script ≡ scheduled → first_word line ≡ word → (word ≡ codes "client" → ⊥)
    → NoneBetween before line
none-scheduled before line word kind first other none =
    none-named_item before line (λ name has. no-item-scheduled line name (subst (λ (s : Script). Has s line item_name name) kind has))
    (none10 before line
    (none9 before line
    (none8 before line none (λ has. kinds-differ (sym kind ∙ has.0.0)))
    (λ has. other (sym first ∙ has.0)))
    (λ has. kinds-differ (sym kind ∙ has.0.0)))

-- Fields are tested in order.
pub IsLineFault-fields : (before : Before) (line : TextLine) (word : List ℕ) (args given : List (List ℕ)) (cause : LineCause) → words line ≡ word ∷ args
    → arguments before.script line ≡ given → NoneBefore before line 6 → NoneBetween before line
    → IsFieldFault (or_default 0 before.sites) (forms_of before.script word) given cause → IsLineFault before line (At cause)
IsLineFault-fields before line word args given WrongCount are same none between fault =
    reported before line WrongCount (form_of-line before.script line word args given are same ∙ fault) none
IsLineFault-fields before line word args given BadNumber are same none between fault =
    reported before line BadNumber
    (ap (list_all (has_good_number (or_default 0 before.sites))) (fields_of-line before.script line word args given are same) ∙ fault.1)
    (between (none7 before line none (λ no_form. fault.0 (sym (form_of-line before.script line word args given are same) ∙ no_form))))
IsLineFault-fields before line word args given BadMode are same none between fault =
    let fields = fields_of-line before.script line word args given are same in
    reported before line BadMode
    (fault.2, subst (λ (fs : List (Field × List ℕ)). Contains fs (mode, fault.2)) (sym fields) fault.3, fault.4)
    (none13 before line (between (none7 before line none (λ no_form. fault.0 (sym (form_of-line before.script line word args given are same) ∙ no_form))))
    (λ bad. both_ways (list_all (has_good_number (or_default 0 before.sites)) (fields_of before.script line)) bad (ap (list_all (has_good_number (or_default 0 before.sites))) fields ∙ fault.1)))
IsLineFault-fields before line word args given cause are same none between fault = absurd fault
