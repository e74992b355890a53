-- Faults of lines of which the first word is known.
use Rattle.std.proofs.Common.{◌≡◌, ◌≢◌, ℕ, ◌<◌, ◌≤◌, Bool, true, false, Some, None, List, [], ◌∷◌, length, refl, sym, ap, ◌∙◌, subst, arith, inl, inr, ⊎_elim, zero, suc, not}
use Rattle.std.specs.Prelude.{codes, IsTrue, ℤ, ◌⊎◌, ◌^◌, ◌-◌}
use Rattle.std.specs.List.{list_all, Contains}
use Rattle.std.specs.Str.{bytes_eq}
use Rattle.std.proofs.lemmas.Bool.{both_ways, and_from, and_parts}
use Rattle.std.proofs.lemmas.Slice.Eq.{bytes_eq-Decides}
use Rattle.pv_base.specs.declared.limits.TheConstants.{MAX_CLIENTS, MAX_ITEMS, MAX_JOURNAL, MAX_SITES, MIN_JOURNAL}
use Rattle.pv_base.specs.Name.{is_name}
use Rattle.pv_base.specs.Catalog.{place_of}
use Rattle.pv_model.specs.LineCauses.{Before, at_first, twice, too_late, HasFirstWord, HasLineCause, IsSaid, or_default, Has}
use Rattle.pv_model.specs.LineForms.{Script, scheduled, live, most_bytes, Field, number, site, value, mode, name, first_word, forms_of, is_wished, form_of, fields_of, fields_in, has_good_number}
use Rattle.pv_law_schedules.proofs.NoCauseLemmas.{no-item}
use Rattle.pv_model.specs.Text.{TextLine, IsText, words, IsDecimal, IsSignedDecimal}
use Rattle.pv_model.specs.Meaning.{fits_i64}
use Rattle.pv_script.specs.LineFaults.{form_among, IsFieldFault, IsLineFault}
use Rattle.pv_script.specs.Keywords.{command_word, command_forms}
use Rattle.pv_script.specs.Said.{IsHead}
use Rattle.pv_script.specs.declared.keyword.Command as code
use Rattle.pv_script.specs.declared.fault.Fault.TheVariants.{At}
use Rattle.pv_script.specs.declared.schedule.LineCause.{LineCause}
use Rattle.pv_script.specs.declared.schedule.LineCause.TheVariants.{SitesExpected, Twice, TooLate, WrongCount, TooManyClients, BadName, NameTaken, TooManyItems}
use Rattle.pv_script.proofs.CauseLemmas.{NoneBefore, none3, none4, none5, none6, none7, none8, none9, none10, none13, none14, none15, none16, none-text, none-known, none-named_item, none-between, none-scheduled, reported, first-line, arguments-line, form_of-line, fields_of-line, IsLineFault-fields}
use Rattle.pv_script.proofs.KeywordLemmas.{forms-command, some-command, plain-command, command-no_sites, command-no_journal, command-no_item, command-no_plan, command-no_client, forms-sites, forms-journal, forms-item, forms-plan, forms-client, plain-sites, plain-journal, plain-item, plain-plan, plain-client, unwished-sites, unwished-journal, unwished-item, unwished-plan, unwished-client}
use Rattle.pv_script.proofs.FieldLemmas.{good-site, good-value}

pub some_forms : (forms : List (List Field)) (form : List Field) (more : List (List Field)) → forms ≡ form ∷ more → forms ≢ []
some_forms forms form more is none = cc

-- ---- words that differ

pub differs : (word other : List ℕ) → bytes_eq word other ≡ false → word ≡ other → ⊥
differs word other refuted same = both_ways (bytes_eq word other) refuted ((bytes_eq-Decides word other).1 same)

pub begins : (line word other : List ℕ) (args : List (List ℕ)) → words line ≡ word ∷ args → (word ≡ other → ⊥) → HasFirstWord other line → ⊥
begins line word other args are refuted is = refuted (sym (first-line line word args are) ∙ is)

-- ---- commands

known-command : (command : code.Command) → forms_of scheduled (command_word command) ≢ []
known-command command none = some-command command (sym (forms-command command) ∙ none)

-- a line whose first word declares nothing that comes once
pub no-twice : (before : Before) (line : TextLine) (word : List ℕ) (args : List (List ℕ)) → words line ≡ word ∷ args → (word ≡ codes "sites" → ⊥) → (word ≡ codes "journal" → ⊥)
    → (word ≡ codes "plan" → ⊥) → HasLineCause before line twice → ⊥
no-twice before line word args are sites journal plan =
    ⊎_elim (λ (p : HasFirstWord (codes "sites") line × IsSaid before.sites). begins line word (codes "sites") args are sites p.0)
    (⊎_elim (λ (p : HasFirstWord (codes "journal") line × IsSaid before.journal). begins line word (codes "journal") args are journal p.0)
    (λ (p : HasFirstWord (codes "plan") line × IsSaid before.fault_plan). begins line word (codes "plan") args are plan p.0))

-- a line whose first word declares nothing that comes early
pub no-late : (before : Before) (line : TextLine) (word : List ℕ) (args : List (List ℕ)) → words line ≡ word ∷ args → (word ≡ codes "journal" → ⊥) → (word ≡ codes "item" → ⊥)
    → (word ≡ codes "plan" → ⊥) → HasLineCause before line too_late → ⊥
no-late before line word args are journal item plan late =
    ⊎_elim (begins line word (codes "journal") args are journal) (⊎_elim (begins line word (codes "item") args are item) (begins line word (codes "plan") args are plan)) late.0

none-command : (before : Before) (line : TextLine) (command : code.Command) (args : List (List ℕ)) → before.script ≡ scheduled → IsHead before line (command_word command) args
    → NoneBefore before line 6
none-command before line command args kind head =
    let known : forms_of before.script (command_word command) ≢ [] =
    λ none. known-command command (ap (λ (s : Script). forms_of s (command_word command)) (sym kind) ∙ none) in
    none6 before line
    (none5 before line (none-known before line (command_word command) args head known)
    (no-twice before line (command_word command) args head.words (command-no_sites command) (command-no_journal command) (command-no_plan command)))
    (no-late before line (command_word command) args head.words (command-no_journal command) (command-no_item command) (command-no_plan command))

pub IsLineFault-command : (before : Before) (line : TextLine) (sites : ℕ) (command : code.Command) (args : List (List ℕ)) (cause : LineCause) → before.script ≡ scheduled
    → IsHead before line (command_word command) args → or_default 0 before.sites ≡ sites → IsFieldFault sites (command_forms command) args cause
    → IsLineFault before line (At cause)
IsLineFault-command before line sites command args cause kind head said fault =
    IsLineFault-fields before line (command_word command) args args cause head.words
    (arguments-line before.script line (command_word command) args head.words (plain-command command))
    (none-command before line command args kind head)
    (none-scheduled before line (command_word command) kind (first-line line (command_word command) args head.words) (command-no_client command))
    (rw (said, kind, forms-command command) fault)

-- ---- the first line

pub IsLineFault-no_sites : (kind : Script) (line : TextLine) → IsText (most_bytes kind) line → (first_word line ≡ codes "sites" → ⊥)
    → IsLineFault (at_first kind) line (At SitesExpected)
IsLineFault-no_sites kind line is refuted = reported (at_first kind) line SitesExpected (refl, refuted) (none-text (at_first kind) line is)

none-first : (kind : Script) (line : TextLine) (args : List (List ℕ)) → IsText (most_bytes kind) line → words line ≡ codes "sites" ∷ args → NoneBefore (at_first kind) line 6
none-first kind line args is are =
    none6 (at_first kind) line
    (none5 (at_first kind) line
    (none4 (at_first kind) line
    (none3 (at_first kind) line (none-text (at_first kind) line is) (λ has. has.1 (first-line line (codes "sites") args are)))
    (λ unknown. some_forms (forms_of kind (codes "sites")) (number 1 MAX_SITES ∷ []) [] (forms-sites kind) (ap (forms_of kind) (sym (first-line line (codes "sites") args are)) ∙ unknown)))
    (⊎_elim (λ p. p.1 refl) (⊎_elim (λ p. p.1 refl) (λ p. p.1 refl))))
    (λ late. let begun : false ≡ true = late.1 in cc)

pub IsLineFault-sites : (kind : Script) (line : TextLine) (args : List (List ℕ)) (cause : LineCause) → IsText (most_bytes kind) line → words line ≡ codes "sites" ∷ args
    → IsFieldFault 0 ((number 1 MAX_SITES ∷ []) ∷ []) args cause → IsLineFault (at_first kind) line (At cause)
IsLineFault-sites kind line args cause is are fault =
    IsLineFault-fields (at_first kind) line (codes "sites") args args cause are
    (arguments-line kind line (codes "sites") args are plain-sites) (none-first kind line args is are)
    (none-between (at_first kind) line (codes "sites") (first-line line (codes "sites") args are) unwished-sites (differs (codes "sites") (codes "client") refl))
    (rw (forms-sites kind) fault)

-- ---- a second `sites`

pub IsLineFault-twice_sites : (before : Before) (line : TextLine) (args : List (List ℕ)) → IsHead before line (codes "sites") args → IsLineFault before line (At Twice)
IsLineFault-twice_sites before line args head =
    reported before line Twice
    (inl (first-line line (codes "sites") args head.words, λ none. let said = head.said in let refuted : None ≡ Some head.sites = sym none ∙ said in cc))
    (none-known before line (codes "sites") args head (some_forms (forms_of before.script (codes "sites")) (number 1 MAX_SITES ∷ []) [] (forms-sites before.script)))

-- ---- journals

none-journal : (before : Before) (line : TextLine) (args : List (List ℕ)) → IsHead before line (codes "journal") args → NoneBefore before line 4
none-journal before line args head =
    none-known before line (codes "journal") args head (some_forms (forms_of before.script (codes "journal")) (number MIN_JOURNAL MAX_JOURNAL ∷ []) [] (forms-journal before.script))

pub IsLineFault-twice_journal : (before : Before) (line : TextLine) (args : List (List ℕ)) → IsHead before line (codes "journal") args
    → before.journal ≢ None → IsLineFault before line (At Twice)
IsLineFault-twice_journal before line args head said =
    reported before line Twice (inr (inl (first-line line (codes "journal") args head.words, said))) (none-journal before line args head)

none-once : (before : Before) (line : TextLine) (args : List (List ℕ)) → IsHead before line (codes "journal") args → before.journal ≡ None → NoneBefore before line 5
none-once before line args head once =
    none5 before line (none-journal before line args head)
    (⊎_elim (λ (p : HasFirstWord (codes "sites") line × IsSaid before.sites). begins line (codes "journal") (codes "sites") args head.words (differs (codes "journal") (codes "sites") refl) p.0)
    (⊎_elim (λ (p : HasFirstWord (codes "journal") line × IsSaid before.journal). p.1 once)
    (λ (p : HasFirstWord (codes "plan") line × IsSaid before.fault_plan). begins line (codes "journal") (codes "plan") args head.words (differs (codes "journal") (codes "plan") refl) p.0)))

pub IsLineFault-late_journal : (before : Before) (line : TextLine) (args : List (List ℕ)) → IsHead before line (codes "journal") args
    → before.journal ≡ None → before.begun ≡ true → IsLineFault before line (At TooLate)
IsLineFault-late_journal before line args head once late =
    reported before line TooLate (inl (first-line line (codes "journal") args head.words), late) (none-once before line args head once)

pub IsLineFault-journal : (before : Before) (line : TextLine) (args : List (List ℕ)) (cause : LineCause) → IsHead before line (codes "journal") args
    → before.journal ≡ None → before.begun ≡ false → IsFieldFault (or_default 0 before.sites) ((number MIN_JOURNAL MAX_JOURNAL ∷ []) ∷ []) args cause
    → IsLineFault before line (At cause)
IsLineFault-journal before line args cause head once early fault =
    IsLineFault-fields before line (codes "journal") args args cause head.words
    (arguments-line before.script line (codes "journal") args head.words plain-journal)
    (none6 before line (none-once before line args head once) (λ late. both_ways before.begun early late.1))
    (none-between before line (codes "journal") (first-line line (codes "journal") args head.words) unwished-journal (differs (codes "journal") (codes "client") refl))
    (rw (forms-journal before.script) fault)

-- ---- items

none-item : (before : Before) (line : TextLine) (args : List (List ℕ)) → IsHead before line (codes "item") args → NoneBefore before line 5
none-item before line args head =
    none5 before line
    (none-known before line (codes "item") args head (some_forms (forms_of before.script (codes "item")) (name ∷ site ∷ value ∷ []) [] (forms-item before.script)))
    (no-twice before line (codes "item") args head.words (differs (codes "item") (codes "sites") refl) (differs (codes "item") (codes "journal") refl) (differs (codes "item") (codes "plan") refl))

pub IsLineFault-late_item : (before : Before) (line : TextLine) (args : List (List ℕ)) → IsHead before line (codes "item") args
    → before.begun ≡ true → IsLineFault before line (At TooLate)
IsLineFault-late_item before line args head late =
    reported before line TooLate (inr (inl (first-line line (codes "item") args head.words)), late) (none-item before line args head)

none-early : (before : Before) (line : TextLine) (args : List (List ℕ)) → IsHead before line (codes "item") args → before.begun ≡ false → NoneBefore before line 6
none-early before line args head early = none6 before line (none-item before line args head) (λ late. both_ways before.begun early late.1)

pub IsLineFault-item : (before : Before) (line : TextLine) (args : List (List ℕ)) (cause : LineCause) → IsHead before line (codes "item") args
    → before.begun ≡ false → IsFieldFault (or_default 0 before.sites) ((name ∷ site ∷ value ∷ []) ∷ []) args cause → IsLineFault before line (At cause)
IsLineFault-item before line args cause head early fault =
    IsLineFault-fields before line (codes "item") args args cause head.words
    (arguments-line before.script line (codes "item") args head.words plain-item) (none-early before line args head early)
    (none-between before line (codes "item") (first-line line (codes "item") args head.words) unwished-item (differs (codes "item") (codes "client") refl))
    (rw (forms-item before.script) fault)

-- The fields of a line that declares an item, where the numbers are good.
pub record IsItemLine (before : Before) (line : TextLine) (word at digits : List ℕ) : Type 0 where
  pub head : IsHead before line (codes "item") (word ∷ at ∷ digits ∷ [])
  pub early : before.begun ≡ false
  pub n : ℕ
  pub site : IsDecimal at n
  pub below : n < or_default 0 before.sites
  pub z : ℤ
  pub value : IsSignedDecimal digits z
  pub fits : IsTrue (fits_i64 z)

item-form : (script : Script) (line word at digits : List ℕ) → words line ≡ codes "item" ∷ word ∷ at ∷ digits ∷ [] → form_of script line ≡ Some (name ∷ site ∷ value ∷ [])
item-form script line word at digits are =
    form_of-line script line (codes "item") (word ∷ at ∷ digits ∷ []) (word ∷ at ∷ digits ∷ []) are (arguments-line script line (codes "item") (word ∷ at ∷ digits ∷ []) are plain-item)
    ∙ ap (λ (forms : List (List Field)). form_among forms (word ∷ at ∷ digits ∷ [])) (forms-item script)

item-fields : (script : Script) (line word at digits : List ℕ) → words line ≡ codes "item" ∷ word ∷ at ∷ digits ∷ [] → fields_of script line ≡ (name, word) ∷ (site, at) ∷ (value, digits) ∷ []
item-fields script line word at digits are =
    fields_of-line script line (codes "item") (word ∷ at ∷ digits ∷ []) (word ∷ at ∷ digits ∷ []) are (arguments-line script line (codes "item") (word ∷ at ∷ digits ∷ []) are plain-item)
    ∙ ap (λ (forms : List (List Field)). fields_in (form_among forms (word ∷ at ∷ digits ∷ [])) (word ∷ at ∷ digits ∷ [])) (forms-item script)

-- ---- which fields there are

not_true : (b : Bool) → not b ≡ true → b ≡ false
not_true true is = sym is
not_true false is = refl

pub contains-cons : (x y : Field × List ℕ) (xs : List (Field × List ℕ)) → Contains (y ∷ xs) x → (y ≡ x) ⊎ Contains xs x
contains-cons x y xs (zero, below, same) = inl same
contains-cons x y xs (suc k, below, same) = inr (k, omega arith, same)

-- No field of this kind is among these.
pub no_field : (p : Field → Bool) (fields : List (Field × List ℕ)) (field : Field) (word : List ℕ) → list_all (λ (f : Field × List ℕ). not (p f.0)) fields ≡ true → p field ≡ true
    → Contains fields (field, word) → ⊥
no_field p [] field word all is has = absurd (let below = has.1 in omega arith)
no_field p (f ∷ fields) field word all is has =
    let parts = and_parts (not (p f.0)) (list_all (λ (g : Field × List ℕ). not (p g.0)) fields) all in
    ⊎_elim
    (λ (same : f ≡ (field, word)). both_ways (p f.0) (not_true (p f.0) parts.0) (ap (λ (g : Field × List ℕ). p g.0) same ∙ is))
    (λ more. no_field p fields field word parts.1 is more)
    (contains-cons (field, word) f fields has)

unfoldable pub is_mode : Field → Bool
is_mode mode = true
is_mode _ = false

unfoldable pub is_name_field : Field → Bool
is_name_field name = true
is_name_field _ = false

item-no_mode : (script : Script) (line word at digits other : List ℕ) → words line ≡ codes "item" ∷ word ∷ at ∷ digits ∷ [] → Has script line mode other → ⊥
unfolding is_mode
item-no_mode script line word at digits other are has =
    no_field is_mode ((name, word) ∷ (site, at) ∷ (value, digits) ∷ []) mode other refl refl
    (subst (λ (fs : List (Field × List ℕ)). Contains fs (mode, other)) (item-fields script line word at digits are) has)

-- The name of the item is the one that is there.
item-name : (script : Script) (line word at digits other : List ℕ) → words line ≡ codes "item" ∷ word ∷ at ∷ digits ∷ [] → Has script line name other → word ≡ other
unfolding is_name_field
item-name script line word at digits other are has =
    ⊎_elim (λ (same : (name, word) ≡ (name, other)). ap (λ (f : Field × List ℕ). f.1) same)
    (λ more. absurd (no_field is_name_field ((site, at) ∷ (value, digits) ∷ []) name other refl refl more))
    (contains-cons (name, other) (name, word) ((site, at) ∷ (value, digits) ∷ [])
    (subst (λ (fs : List (Field × List ℕ)). Contains fs (name, other)) (item-fields script line word at digits are) has))

item-has_name : (script : Script) (line word at digits : List ℕ) → words line ≡ codes "item" ∷ word ∷ at ∷ digits ∷ [] → Has script line name word
item-has_name script line word at digits are = subst (λ (fs : List (Field × List ℕ)). Contains fs (name, word)) (sym (item-fields script line word at digits are)) (0, omega arith, refl)

-- ---- the name of an item, and the room for it

none-numbers : (before : Before) (line word at digits : List ℕ) → IsItemLine before line word at digits → NoneBefore before line 14
none-numbers before line word at digits is =
    let sites = or_default 0 before.sites in
    none14 before line
    (none13 before line
    (none-between before line (codes "item") (first-line line (codes "item") (word ∷ at ∷ digits ∷ []) is.head.words) unwished-item (differs (codes "item") (codes "client") refl)
    (none7 before line (none-early before line (word ∷ at ∷ digits ∷ []) is.head is.early)
    (λ none. let some = item-form before.script line word at digits is.head.words in let refuted : None ≡ Some (name ∷ site ∷ value ∷ []) = sym none ∙ some in cc)))
    (λ bad. both_ways (list_all (has_good_number sites) (fields_of before.script line)) bad
    (ap (list_all (has_good_number sites)) (item-fields before.script line word at digits is.head.words)
    ∙ and_from (has_good_number sites (site, at)) _ (good-site sites is.n at is.site is.below) (and_from (has_good_number sites (value, digits)) true (good-value sites is.z digits is.value is.fits) refl))))
    (λ has. item-no_mode before.script line word at digits has.0 is.head.words has.1)

pub IsLineFault-bad_name : (before : Before) (line word at digits : List ℕ) → IsItemLine before line word at digits → is_name word ≡ false
    → IsLineFault before line (At BadName)
IsLineFault-bad_name before line word at digits is refuted =
    reported before line BadName (word, item-has_name before.script line word at digits is.head.words, refuted) (none-numbers before line word at digits is)

none-named : (before : Before) (line word at digits : List ℕ) → IsItemLine before line word at digits → is_name word ≡ true → NoneBefore before line 15
none-named before line word at digits is named =
    none15 before line (none-numbers before line word at digits is)
    (λ has. both_ways (is_name word) (ap is_name (item-name before.script line word at digits has.0 is.head.words has.1) ∙ has.2) named)

pub IsLineFault-taken : (before : Before) (line word at digits : List ℕ) → IsItemLine before line word at digits → is_name word ≡ true
    → place_of word before.items ≢ None → IsLineFault before line (At NameTaken)
IsLineFault-taken before line word at digits is named taken =
    reported before line NameTaken (word, item-has_name before.script line word at digits is.head.words, taken) (none-named before line word at digits is named)

pub IsLineFault-full : (before : Before) (line word at digits : List ℕ) → IsItemLine before line word at digits → is_name word ≡ true
    → place_of word before.items ≡ None → MAX_ITEMS ≤ length before.items → IsLineFault before line (At TooManyItems)
IsLineFault-full before line word at digits is named free full =
    reported before line TooManyItems (first-line line (codes "item") (word ∷ at ∷ digits ∷ []) is.head.words, full)
    (none16 before line (none-named before line word at digits is named)
    (λ has. has.2 (ap (λ (w : List ℕ). place_of w before.items) (sym (item-name before.script line word at digits has.0 is.head.words has.1)) ∙ free)))

-- ---- what a live script alone declares

module _ (before : Before) (line : TextLine) (args : List (List ℕ)) (kind : before.script ≡ live) where
  none-plan : IsHead before line (codes "plan") args → NoneBefore before line 4
  none-plan head =
      none-known before line (codes "plan") args head
      (some_forms (forms_of before.script (codes "plan")) (number 0 (2 ^ 32 - 1) ∷ number 0 (2 ^ 32 - 1) ∷ []) [] (ap (λ (s : Script). forms_of s (codes "plan")) kind ∙ forms-plan))

  pub IsLineFault-twice_plan : IsHead before line (codes "plan") args → before.fault_plan ≢ None → IsLineFault before line (At Twice)
  IsLineFault-twice_plan head said = reported before line Twice (inr (inr (first-line line (codes "plan") args head.words, said))) (none-plan head)

  none-once_plan : IsHead before line (codes "plan") args → before.fault_plan ≡ None → NoneBefore before line 5
  none-once_plan head once =
      none5 before line (none-plan head)
      (⊎_elim (λ p. begins line (codes "plan") (codes "sites") args head.words (differs (codes "plan") (codes "sites") refl) p.0)
      (⊎_elim (λ p. begins line (codes "plan") (codes "journal") args head.words (differs (codes "plan") (codes "journal") refl) p.0) (λ p. p.1 once)))

  pub IsLineFault-late_plan : IsHead before line (codes "plan") args → before.fault_plan ≡ None → before.begun ≡ true → IsLineFault before line (At TooLate)
  IsLineFault-late_plan head once late =
      reported before line TooLate (inr (inr (first-line line (codes "plan") args head.words)), late) (none-once_plan head once)

  pub IsLineFault-plan : (cause : LineCause) → IsHead before line (codes "plan") args → before.fault_plan ≡ None → before.begun ≡ false
      → IsFieldFault (or_default 0 before.sites) ((number 0 (2 ^ 32 - 1) ∷ number 0 (2 ^ 32 - 1) ∷ []) ∷ []) args cause → IsLineFault before line (At cause)
  IsLineFault-plan cause head once early fault =
      IsLineFault-fields before line (codes "plan") args args cause head.words
      (arguments-line before.script line (codes "plan") args head.words plain-plan)
      (none6 before line (none-once_plan head once) (λ late. both_ways before.begun early late.1))
      (none-between before line (codes "plan") (first-line line (codes "plan") args head.words) unwished-plan (differs (codes "plan") (codes "client") refl))
      (rw (kind, forms-plan) fault)

  none-client : IsHead before line (codes "client") args → NoneBefore before line 6
  none-client head =
      none6 before line
      (none5 before line
      (none-known before line (codes "client") args head
      (some_forms (forms_of before.script (codes "client")) (site ∷ []) [] (ap (λ (s : Script). forms_of s (codes "client")) kind ∙ forms-client)))
      (no-twice before line (codes "client") args head.words (differs (codes "client") (codes "sites") refl) (differs (codes "client") (codes "journal") refl) (differs (codes "client") (codes "plan") refl)))
      (no-late before line (codes "client") args head.words (differs (codes "client") (codes "journal") refl) (differs (codes "client") (codes "item") refl) (differs (codes "client") (codes "plan") refl))

  pub IsLineFault-client_words : IsHead before line (codes "client") args → form_among ((site ∷ []) ∷ []) args ≡ None → IsLineFault before line (At WrongCount)
  IsLineFault-client_words head wrong =
      reported before line WrongCount
      (form_of-line before.script line (codes "client") args args head.words (arguments-line before.script line (codes "client") args head.words plain-client)
      ∙ ap (λ (forms : List (List Field)). form_among forms args) (ap (λ (s : Script). forms_of s (codes "client")) kind ∙ forms-client) ∙ wrong)
      (none-client head)

  -- With one word behind the first, a client too many is so whatever that word is.
  pub IsLineFault-full_clients : (word : List ℕ) → args ≡ word ∷ [] → IsHead before line (codes "client") args → MAX_CLIENTS ≤ length before.clients
      → IsLineFault before line (At TooManyClients)
  IsLineFault-full_clients word one head full =
      reported before line TooManyClients (first-line line (codes "client") args head.words, full)
      (none8 before line
      (none7 before line (none-client head)
      (λ none.
      let form : form_of before.script line ≡ Some (site ∷ []) =
      form_of-line before.script line (codes "client") args (word ∷ []) head.words (arguments-line before.script line (codes "client") args head.words plain-client ∙ one)
      ∙ ap (λ (forms : List (List Field)). form_among forms (word ∷ [])) (ap (λ (s : Script). forms_of s (codes "client")) kind ∙ forms-client) in
      let never : None ≡ Some (site ∷ []) = sym none ∙ form in cc))
      (λ has. both_ways (is_wished (codes "client")) unwished-client (ap is_wished (sym (first-line line (codes "client") args head.words)) ∙ has.0.1)))

  pub IsLineFault-client : (cause : LineCause) → IsHead before line (codes "client") args → length before.clients < MAX_CLIENTS
      → IsFieldFault (or_default 0 before.sites) ((site ∷ []) ∷ []) args cause → IsLineFault before line (At cause)
  IsLineFault-client cause head room fault =
      IsLineFault-fields before line (codes "client") args args cause head.words
      (arguments-line before.script line (codes "client") args head.words plain-client) (none-client head)
      (λ none.
      none-named_item before line
      (λ word. no-item before.script line word (begins line (codes "client") (codes "peek") args head.words (differs (codes "client") (codes "peek") refl)))
      (none10 before line
      (none9 before line
      (none8 before line none (λ has. both_ways (is_wished (codes "client")) unwished-client (ap is_wished (sym (first-line line (codes "client") args head.words)) ∙ has.0.1)))
      (λ has. let many = has.1 in omega arith))
      (λ has. both_ways (is_wished (codes "client")) unwished-client (ap is_wished (sym (first-line line (codes "client") args head.words)) ∙ has.0.1))))
      (rw (kind, forms-client) fault)
