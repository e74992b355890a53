-- A line that has a cause has a first one.
use Rattle.std.proofs.Common.{◌≡◌, ◌⊎◌, ⊎_elim, ℕ, suc, ◌<◌, ◌≤◌, true, false, Option, Some, None, List, length, inl, inr, refl, sym, ap, subst, ◌∙◌, arith}
use Rattle.std.specs.Prelude.{codes}
use Rattle.std.specs.List.{list_all, Contains}
use Rattle.std.proofs.lemmas.Bool.{false≢true}
use Rattle.pv_base.specs.declared.limits.TheConstants.{MAX_PROGRAM_ITEMS}
use Rattle.pv_base.specs.Catalog.{place_of}
use Rattle.pv_base.specs.Name.{is_name}
use Rattle.pv_model.specs.LineCauses as causes
use Rattle.pv_model.specs.LineCauses.{Before, or_default, last_requests, last_site, home_of, IsAsked, LineCause, line_cause_rank, HasLineCause, IsFirstCause, mode_words}
use Rattle.pv_model.specs.Check.{names_item, has_assignment, has_return}
use Rattle.pv_model.specs.LineForms.{live, most_bytes, fields_of, first_word, is_wished, forms_of, form_of, has_good_number}
use Rattle.pv_model.specs.Syntax.{Program}
use Rattle.pv_model.specs.Text.{TextLine, is_text_byte}
use Rattle.pv_law_programs.proofs.ItemLemmas.{some_items}
use Rattle.pv_base.proofs.Basics.{Some_inj}
use Rattle.pv_law_schedules.proofs.LineFormLemmas.{none-some-sites}
use Rattle.pv_law_schedules.proofs.OneCauseLemmas.{says_more, plain_of, plain-cause}
use Rattle.pv_law_schedules.proofs.SomeCauseLemmas.{Decidable, decide-kind, decide-bool, decide-and, decide-or, decide-not, decide-nothing, decide-empty, decide-bytes, decide-less, decide-contains, decide-mode, decide-name, decide-item, decide-number, AtProgram, some-program, decide-fault, decide-program, decide-no_items, NamesMany, decide-many}

-- Whether a line has a cause that says nothing more.

begins : (word : List ℕ) (line : TextLine) → Decidable (first_word line ≡ word)
begins word line = decide-bytes (first_word line) word

abbrev BeginsRequest : TextLine → (Program → Type 0) → Program → Type 0
BeginsRequest line Q p = (first_word line ≡ codes "query") × Q p

decide-request : (before : Before) (line : TextLine) (Q : Program → Type 0) → ((p : Program) → Decidable (Q p)) → Decidable ((p : Program) × causes.HasProgram before line p × BeginsRequest line Q p)
decide-request before line Q decide = decide-program before line (BeginsRequest line Q) (λ p. decide-and (begins (codes "query") line) (decide p)) (some-program before line)

decide-as : {P Q : Type 0} → (P → Q) → (Q → P) → Decidable P → Decidable Q
decide-as to from (inl p) = inl (to p)
decide-as to from (inr isnt) = inr (λ q. isnt (from q))

decide-asked : (before : Before) (line : TextLine) → Decidable (IsAsked before line)
decide-asked before line = decide-and (decide-kind before.script live) (decide-bool (is_wished (first_word line)) true)

-- The item of this name is at another site than the last client's.
abbrev IsPlacedElsewhere : Before → Option ℕ → Type 0
IsPlacedElsewhere before found = (place : ℕ) × (found ≡ Some place) × (home_of before.items place ≡ last_site before.clients → ⊥)

abbrev IsElsewhere : Before → List ℕ → Type 0
IsElsewhere before w = IsPlacedElsewhere before (place_of w before.items)

decide-elsewhere : (before : Before) (found : Option ℕ) → Decidable (IsPlacedElsewhere before found)
decide-elsewhere before None = inr (λ h. let never : ⊥ = absurd (none-some-sites None h.0 h.1 refl) in never)
decide-elsewhere before (Some place) =
    decide-as (λ isnt. (place, refl, isnt)) (λ h same. h.2 (ap (home_of before.items) (sym (Some_inj h.1)) ∙ same))
    (decide-not (decide-number (home_of before.items place) (last_site before.clients)))

decide-cause : (before : Before) (line : TextLine) (c : LineCause) → says_more (line_cause_rank c) ≡ false → Decidable (HasLineCause before line c)
decide-cause before line causes.too_long e = decide-less (most_bytes before.script) (length line)
decide-cause before line causes.not_text e = decide-bool (list_all is_text_byte line) false
decide-cause before line causes.sites_expected e = decide-and (decide-nothing before.sites) (decide-not (begins (codes "sites") line))
decide-cause before line causes.unknown_word e = decide-empty (forms_of before.script (first_word line))
decide-cause before line causes.twice e =
    decide-or (decide-and (begins (codes "sites") line) (decide-not (decide-nothing before.sites)))
    (decide-or (decide-and (begins (codes "journal") line) (decide-not (decide-nothing before.journal))) (decide-and (begins (codes "plan") line) (decide-not (decide-nothing before.fault_plan))))
decide-cause before line causes.too_late e = decide-and (decide-or (begins (codes "journal") line) (decide-or (begins (codes "item") line) (begins (codes "plan") line))) (decide-bool before.begun true)
decide-cause before line causes.wrong_count e = decide-nothing (form_of before.script line)
decide-cause before line causes.client_expected e = decide-and (decide-asked before line) (decide-empty before.clients)
decide-cause before line causes.too_many_clients e =
    decide-and (begins (codes "client") line) (decide-as (λ l. omega (arith, l)) (λ l. omega (arith, l)) (decide-less 7 (length before.clients)))
decide-cause before line causes.too_many_requests e =
    decide-and (decide-asked before line) (decide-as (λ l. omega (arith, l)) (λ l. omega (arith, l)) (decide-less 999 (last_requests before.clients)))
decide-cause before line causes.no_such_item e = decide-item (λ w. place_of w before.items ≡ None) (λ w. decide-nothing (place_of w before.items)) before.script line
decide-cause before line causes.other_site e =
    decide-as (λ h. (h.0, h.2.0, h.1, h.2.1, h.2.2)) (λ h. (h.0, h.2, (h.1, h.3, h.4)))
    (decide-item (IsElsewhere before) (λ w. decide-elsewhere before (place_of w before.items)) before.script line)
decide-cause before line causes.bad_number e = decide-bool (list_all (has_good_number (or_default 0 before.sites)) (fields_of before.script line)) false
decide-cause before line causes.bad_mode e = decide-mode (λ w. Contains mode_words w → ⊥) (λ w. decide-not (decide-contains mode_words w)) before.script line
decide-cause before line causes.bad_name e = decide-name (λ w. is_name w ≡ false) (λ w. decide-bool (is_name w) false) before.script line
decide-cause before line causes.name_taken e = decide-name (λ w. place_of w before.items ≡ None → ⊥) (λ w. decide-not (decide-nothing (place_of w before.items))) before.script line
decide-cause before line causes.too_many_items e = decide-and (begins (codes "item") line) (decide-as (λ l. omega (arith, l)) (λ l. omega (arith, l)) (decide-less 1023 (length before.items)))
decide-cause before line (causes.at_program kind column) e = absurd (false≢true (sym e))
decide-cause before line causes.names_no_item e =
    decide-program before line (λ p. (n : ℕ) → names_item p n ≡ false) (λ p. let some = some_items p in decide-no_items p some.0 some.1) (some-program before line)
decide-cause before line (causes.too_many_names n) e = absurd (false≢true (sym e))
decide-cause before line causes.query_assigns e =
    decide-as (λ h. (h.0, h.1, h.2.0, h.2.1)) (λ h. (h.0, h.1, (h.2, h.3))) (decide-request before line (λ p. has_assignment p ≡ true) (λ p. decide-bool (has_assignment p) true))
decide-cause before line causes.no_return e =
    decide-as (λ h. (h.0, h.1, h.2.0, h.2.1)) (λ h. (h.0, h.1, (h.2, h.3))) (decide-request before line (λ p. has_return p ≡ false) (λ p. decide-bool (has_return p) false))
decide-cause before line causes.not_a_trace e = inr (λ never. never)

-- Whether a line has a cause of a rank.

abbrev HasAt : Before → TextLine → ℕ → Type 0
HasAt before line r = (c : LineCause) × HasLineCause before line c × (line_cause_rank c ≡ r)

plain-at : (before : Before) (line : TextLine) (c : LineCause) → says_more (line_cause_rank c) ≡ false → Decidable (HasAt before line (line_cause_rank c))
plain-at before line c plain =
    ⊎_elim (λ has. inl (c, has, refl))
    (λ none. inr (λ h.
    let same : h.0 ≡ c = plain-cause h.0 (ap says_more h.2 ∙ plain) ∙ ap plain_of h.2 ∙ sym (plain-cause c plain) in
    none (subst (HasLineCause before line) same h.1)))
    (decide-cause before line c plain)

no-fault-at : (before : Before) (line : TextLine) → (AtProgram before line → ⊥) → (c : LineCause) → HasLineCause before line c → line_cause_rank c ≡ 17 → ⊥
no-fault-at before line none (causes.at_program kind column) has e = none (kind, column, has)
no-fault-at before line none c has e = omega (arith, e)

fault-at : (before : Before) (line : TextLine) → Decidable (HasAt before line 17)
fault-at before line =
    ⊎_elim (λ h. inl (causes.at_program h.0 h.1, h.2, refl)) (λ none. inr (λ h. no-fault-at before line none h.0 h.1 h.2)) (decide-fault before line (some-program before line))

abbrev AtMany : Before → TextLine → Type 0
AtMany before line = (p : Program) × causes.HasProgram before line p × NamesMany p

no-many-at : (before : Before) (line : TextLine) → (AtMany before line → ⊥) → (c : LineCause) → HasLineCause before line c → line_cause_rank c ≡ 19 → ⊥
no-many-at before line none (causes.too_many_names n) has e =
    none (has.0, has.1, (has.2, has.3, subst (λ (m : ℕ). MAX_PROGRAM_ITEMS < m) has.4 has.5))
no-many-at before line none c has e = omega (arith, e)

many-at : (before : Before) (line : TextLine) → Decidable (HasAt before line 19)
many-at before line =
    ⊎_elim (λ h. inl (causes.too_many_names (length h.2.0), (h.0, h.1, h.2.0, h.2.1, refl, h.2.2), refl)) (λ none. inr (λ h. no-many-at before line none h.0 h.1 h.2))
    (decide-program before line NamesMany decide-many (some-program before line))

-- The causes are decided from the first to the last.

abbrev From : Before → TextLine → ℕ → Type 0
From before line r = (c : LineCause) → HasLineCause before line c → r ≤ line_cause_rank c

abbrev pub SomeFirst : Before → TextLine → Type 0
SomeFirst before line = ((c : LineCause) × IsFirstCause before line c) ⊎ ((c : LineCause) → HasLineCause before line c → ⊥)

first-at : (before : Before) (line : TextLine) (r : ℕ) → Decidable (HasAt before line r) → (From before line (suc r) → SomeFirst before line) → From before line r → SomeFirst before line
first-at before line r (inl h) next from = inl (h.0, record { has = h.1; first = λ other has. omega (arith, h.2, from other has) })
first-at before line r (inr none) next from =
    next (λ c has. let low = from c has in let isnt : line_cause_rank c ≡ r → ⊥ = λ e. none (c, has, e) in above r (line_cause_rank c) low isnt)
  where
    above : (r n : ℕ) → r ≤ n → (n ≡ r → ⊥) → suc r ≤ n
    above r n low isnt = omega (arith, low, isnt)

-- a cause that a line has; no line of a script is a line of a trace
rank-below : (before : Before) (line : TextLine) (c : LineCause) → HasLineCause before line c → line_cause_rank c ≤ 21
rank-below before line causes.too_long has = omega arith
rank-below before line causes.not_text has = omega arith
rank-below before line causes.sites_expected has = omega arith
rank-below before line causes.unknown_word has = omega arith
rank-below before line causes.twice has = omega arith
rank-below before line causes.too_late has = omega arith
rank-below before line causes.wrong_count has = omega arith
rank-below before line causes.client_expected has = omega arith
rank-below before line causes.too_many_clients has = omega arith
rank-below before line causes.too_many_requests has = omega arith
rank-below before line causes.no_such_item has = omega arith
rank-below before line causes.other_site has = omega arith
rank-below before line causes.bad_number has = omega arith
rank-below before line causes.bad_mode has = omega arith
rank-below before line causes.bad_name has = omega arith
rank-below before line causes.name_taken has = omega arith
rank-below before line causes.too_many_items has = omega arith
rank-below before line (causes.at_program kind column) has = omega arith
rank-below before line causes.names_no_item has = omega arith
rank-below before line (causes.too_many_names n) has = omega arith
rank-below before line causes.query_assigns has = omega arith
rank-below before line causes.no_return has = omega arith
rank-below before line causes.not_a_trace has = absurd has

pub some-first : (before : Before) (line : TextLine) → SomeFirst before line
some-first before line =
    first-at before line 0 (plain-at before line causes.too_long refl) (
    first-at before line 1 (plain-at before line causes.not_text refl) (
    first-at before line 2 (plain-at before line causes.sites_expected refl) (
    first-at before line 3 (plain-at before line causes.unknown_word refl) (
    first-at before line 4 (plain-at before line causes.twice refl) (
    first-at before line 5 (plain-at before line causes.too_late refl) (
    first-at before line 6 (plain-at before line causes.wrong_count refl) (
    first-at before line 7 (plain-at before line causes.client_expected refl) (
    first-at before line 8 (plain-at before line causes.too_many_clients refl) (
    first-at before line 9 (plain-at before line causes.too_many_requests refl) (
    first-at before line 10 (plain-at before line causes.no_such_item refl) (
    first-at before line 11 (plain-at before line causes.other_site refl) (
    first-at before line 12 (plain-at before line causes.bad_number refl) (
    first-at before line 13 (plain-at before line causes.bad_mode refl) (
    first-at before line 14 (plain-at before line causes.bad_name refl) (
    first-at before line 15 (plain-at before line causes.name_taken refl) (
    first-at before line 16 (plain-at before line causes.too_many_items refl) (
    first-at before line 17 (fault-at before line) (
    first-at before line 18 (plain-at before line causes.names_no_item refl) (
    first-at before line 19 (many-at before line) (
    first-at before line 20 (plain-at before line causes.query_assigns refl) (
    first-at before line 21 (plain-at before line causes.no_return refl)
    (λ from. inr (λ c has. omega (arith, from c has, rank-below before line c has))))))))))))))))))))))))
    (λ c has. omega arith)
