-- Each line has a first cause, or it has none.
use Rattle.std.proofs.Common.{◌≡◌, ◌⊎◌, ⊎_elim, ℕ, ◌<◌, Bool, true, false, Option, Some, None, List, [], ◌∷◌, length, inl, inr, refl, sym, ap, subst, arith}
use Rattle.std.specs.Prelude.{nat_le, ◌==◌}
use Rattle.std.specs.List.{Contains}
use Rattle.std.specs.Str.{bytes_eq}
use Rattle.std.proofs.lemmas.Bool.{false≢true, leb-true, leb-false, eqb-true, eqb-false}
use Rattle.std.proofs.lemmas.Slice.Eq.{bytes_eq-Decides}
use Rattle.pv_base.specs.declared.limits.TheConstants.{MAX_PROGRAM_ITEMS}
use Rattle.pv_model.specs.LineCauses as causes
use Rattle.pv_model.specs.LineCauses.{Before, or_default, declared_by, HasFirstWord, IsSaid, LineCause, line_cause_rank, HasLineCause, HasProgram, Has, IsFirstCause, mode_words}
use Rattle.pv_model.specs.Check.{names_item, AreItems}
use Rattle.pv_model.specs.LineForms as fields
use Rattle.pv_model.specs.LineForms.{Script, scheduled, live, Field, program, fields_of, first_word, forms_of, form_of, has_good_number}
use Rattle.pv_model.specs.ProgramText.{Kind, Refusal, too_large, at_fault, IsRefused}
use Rattle.pv_model.specs.Syntax.{Program}
use Rattle.pv_model.specs.Text.{TextLine}
use Rattle.pv_base.proofs.Basics.{Some_inj}
use Rattle.pv_base.proofs.ContainsLemmas.{Contains-first, Contains-behind, Contains-nil, Contains-cases}
use Rattle.pv_law_programs.proofs.ItemLemmas.{one_items, some_items}
use Rattle.pv_law_schedules.proofs.LineFormLemmas.{first-item}
use Rattle.pv_law_schedules.proofs.LineTextLemmas.{one-text}
use Rattle.pv_law_programs.proofs.NoRefusalLemmas.{no_refusal}
use Rattle.pv_law_schedules.proofs.OneCauseLemmas.{same-program}
use Rattle.pv_law_programs.proofs.SomeAnswer.{some_answer}

-- it holds, or it doesn't
abbrev pub Decidable : Type 0 → Type 0
Decidable P = P ⊎ (P → ⊥)

pub decide-bool : (a b : Bool) → Decidable (a ≡ b)
decide-bool true true = inl refl
decide-bool true false = inr (λ e. false≢true (sym e))
decide-bool false true = inr false≢true
decide-bool false false = inl refl

pub decide-and : {P Q : Type 0} → Decidable P → Decidable Q → Decidable (P × Q)
decide-and (inl p) (inl q) = inl (p, q)
decide-and (inl p) (inr no_q) = inr (λ h. no_q h.1)
decide-and (inr no_p) q = inr (λ h. no_p h.0)

pub decide-or : {P Q : Type 0} → Decidable P → Decidable Q → Decidable (P ⊎ Q)
decide-or (inl p) q = inl (inl p)
decide-or (inr no_p) (inl q) = inl (inr q)
decide-or (inr no_p) (inr no_q) = inr (⊎_elim no_p no_q)

pub decide-not : {P : Type 0} → Decidable P → Decidable (P → ⊥)
decide-not (inl p) = inr (λ no_p. no_p p)
decide-not (inr no_p) = inl no_p

pub decide-nothing : {X : Type 0} (o : Option X) → Decidable (o ≡ None)
decide-nothing None = inl refl
decide-nothing (Some x) = inr (λ e. let never : ⊥ = cc in never)

-- numbers that may be there
pub decide-number : (a b : Option ℕ) → Decidable (a ≡ b)
decide-number None None = inl refl
decide-number None (Some n) = inr (λ e. let never : ⊥ = cc in never)
decide-number (Some m) None = inr (λ e. let never : ⊥ = cc in never)
decide-number (Some m) (Some n) = go (m == n) refl
  where
    go : (b : Bool) → (m == n) ≡ b → Decidable (Some m ≡ Some n)
    go true same = inl (ap Some (eqb-true m n same))
    go false differ = inr (λ e. eqb-false m n differ (Some_inj e))

-- a kind is this one
pub decide-kind : (script kind : Script) → Decidable (script ≡ kind)
decide-kind scheduled scheduled = inl refl
decide-kind scheduled live = inr (λ e. let never : ⊥ = cc in never)
decide-kind live scheduled = inr (λ e. let never : ⊥ = cc in never)
decide-kind live live = inl refl

pub decide-empty : {X : Type 0} (xs : List X) → Decidable (xs ≡ [])
decide-empty [] = inl refl
decide-empty (x ∷ xs) = inr (λ e. let never : ⊥ = cc in never)

pub decide-bytes : (xs ys : List ℕ) → Decidable (xs ≡ ys)
decide-bytes xs ys =
    let decides = bytes_eq-Decides xs ys in
    ⊎_elim (λ e. inl (decides.0 e)) (λ isnt. inr (λ e. isnt (decides.1 e))) (decide-bool (bytes_eq xs ys) true)

pub decide-less : (m n : ℕ) → Decidable (m < n)
decide-less m n = go (nat_le n m) refl
  where
    go : (b : Bool) → nat_le n m ≡ b → Decidable (m < n)
    go true e = let high = leb-true n m e in inr (λ l. omega (arith, high, l))
    go false e = inl (leb-false n m e)

pub decide-some : {X : Type 0} (P : X → Type 0) → ((x : X) → Decidable (P x)) → (xs : List X) → Decidable ((x : X) × Contains xs x × P x)
decide-some P decide [] = inr (λ h. Contains-nil h.0 h.1)
decide-some {X} P decide (x ∷ xs) =
    ⊎_elim
    (λ p. inl (x, Contains-first x xs, p))
    (λ isnt. ⊎_elim
    (λ h. inl (h.0, Contains-behind x xs h.0 h.1, h.2))
    (λ none. inr (λ h. ⊎_elim (λ same. isnt (subst P (sym same) h.2)) (λ c. none (h.0, c, h.2)) (Contains-cases x xs h.0 h.1)))
    (decide-some P decide xs))
    (decide x)

pub decide-contains : (xs : List (List ℕ)) (w : List ℕ) → Decidable (Contains xs w)
decide-contains xs w =
    ⊎_elim (λ h. inl (subst (Contains xs) h.2 h.1)) (λ none. inr (λ c. none (w, c, refl))) (decide-some (λ x. x ≡ w) (λ x. decide-bytes x w) xs)

-- What stands in the fields of a kind.

abbrev InMode : (List ℕ → Type 0) → Field × List ℕ → Type 0
InMode P (fields.mode, w) = P w
InMode P (field, w) = ⊥

in-mode : (P : List ℕ → Type 0) → ((w : List ℕ) → Decidable (P w)) → (x : Field × List ℕ) → Decidable (InMode P x)
in-mode P decide (fields.number least most, w) = inr (λ h. h)
in-mode P decide (fields.site, w) = inr (λ h. h)
in-mode P decide (fields.value, w) = inr (λ h. h)
in-mode P decide (fields.mode, w) = decide w
in-mode P decide (fields.name, w) = inr (λ h. h)
in-mode P decide (fields.item_name, w) = inr (λ h. h)
in-mode P decide (fields.program, w) = inr (λ h. h)

from-mode : (P : List ℕ → Type 0) (script : Script) (line : TextLine) (x : Field × List ℕ) → Contains (fields_of script line) x → InMode P x → (w : List ℕ) × Has script line fields.mode w × P w
from-mode P script line (fields.number least most, w) c h = absurd h
from-mode P script line (fields.site, w) c h = absurd h
from-mode P script line (fields.value, w) c h = absurd h
from-mode P script line (fields.mode, w) c h = (w, c, h)
from-mode P script line (fields.name, w) c h = absurd h
from-mode P script line (fields.item_name, w) c h = absurd h
from-mode P script line (fields.program, w) c h = absurd h

abbrev InName : (List ℕ → Type 0) → Field × List ℕ → Type 0
InName P (fields.name, w) = P w
InName P (field, w) = ⊥

in-name : (P : List ℕ → Type 0) → ((w : List ℕ) → Decidable (P w)) → (x : Field × List ℕ) → Decidable (InName P x)
in-name P decide (fields.number least most, w) = inr (λ h. h)
in-name P decide (fields.site, w) = inr (λ h. h)
in-name P decide (fields.value, w) = inr (λ h. h)
in-name P decide (fields.mode, w) = inr (λ h. h)
in-name P decide (fields.name, w) = decide w
in-name P decide (fields.item_name, w) = inr (λ h. h)
in-name P decide (fields.program, w) = inr (λ h. h)

from-name : (P : List ℕ → Type 0) (script : Script) (line : TextLine) (x : Field × List ℕ) → Contains (fields_of script line) x → InName P x → (w : List ℕ) × Has script line fields.name w × P w
from-name P script line (fields.number least most, w) c h = absurd h
from-name P script line (fields.site, w) c h = absurd h
from-name P script line (fields.value, w) c h = absurd h
from-name P script line (fields.mode, w) c h = absurd h
from-name P script line (fields.name, w) c h = (w, c, h)
from-name P script line (fields.item_name, w) c h = absurd h
from-name P script line (fields.program, w) c h = absurd h

abbrev InItem : (List ℕ → Type 0) → Field × List ℕ → Type 0
InItem P (fields.item_name, w) = P w
InItem P (field, w) = ⊥

in-item : (P : List ℕ → Type 0) → ((w : List ℕ) → Decidable (P w)) → (x : Field × List ℕ) → Decidable (InItem P x)
in-item P decide (fields.number least most, w) = inr (λ h. h)
in-item P decide (fields.site, w) = inr (λ h. h)
in-item P decide (fields.value, w) = inr (λ h. h)
in-item P decide (fields.mode, w) = inr (λ h. h)
in-item P decide (fields.name, w) = inr (λ h. h)
in-item P decide (fields.item_name, w) = decide w
in-item P decide (fields.program, w) = inr (λ h. h)

from-item : (P : List ℕ → Type 0) (script : Script) (line : TextLine) (x : Field × List ℕ) → Contains (fields_of script line) x → InItem P x → (w : List ℕ) × Has script line fields.item_name w × P w
from-item P script line (fields.number least most, w) c h = absurd h
from-item P script line (fields.site, w) c h = absurd h
from-item P script line (fields.value, w) c h = absurd h
from-item P script line (fields.mode, w) c h = absurd h
from-item P script line (fields.name, w) c h = absurd h
from-item P script line (fields.item_name, w) c h = (w, c, h)
from-item P script line (fields.program, w) c h = absurd h

abbrev InProgram : Field × List ℕ → Type 0
InProgram (fields.program, w) = Unit {0}
InProgram (field, w) = ⊥

in-program : (x : Field × List ℕ) → Decidable (InProgram x)
in-program (fields.number least most, w) = inr (λ h. h)
in-program (fields.site, w) = inr (λ h. h)
in-program (fields.value, w) = inr (λ h. h)
in-program (fields.mode, w) = inr (λ h. h)
in-program (fields.name, w) = inr (λ h. h)
in-program (fields.item_name, w) = inr (λ h. h)
in-program (fields.program, w) = inl tt

from-program : (script : Script) (line : TextLine) (x : Field × List ℕ) → Contains (fields_of script line) x → InProgram x → (w : List ℕ) × Has script line fields.program w
from-program script line (fields.number least most, w) c h = absurd h
from-program script line (fields.site, w) c h = absurd h
from-program script line (fields.value, w) c h = absurd h
from-program script line (fields.mode, w) c h = absurd h
from-program script line (fields.name, w) c h = absurd h
from-program script line (fields.item_name, w) c h = absurd h
from-program script line (fields.program, w) c h = (w, c)

pub decide-mode : (P : List ℕ → Type 0) → ((w : List ℕ) → Decidable (P w)) → (script : Script) (line : TextLine) → Decidable ((w : List ℕ) × Has script line fields.mode w × P w)
decide-mode P decide script line =
    ⊎_elim (λ h. inl (from-mode P script line h.0 h.1 h.2)) (λ none. inr (λ h. none ((fields.mode, h.0), h.1, h.2))) (decide-some (InMode P) (in-mode P decide) (fields_of script line))

pub decide-name : (P : List ℕ → Type 0) → ((w : List ℕ) → Decidable (P w)) → (script : Script) (line : TextLine) → Decidable ((w : List ℕ) × Has script line fields.name w × P w)
decide-name P decide script line =
    ⊎_elim (λ h. inl (from-name P script line h.0 h.1 h.2)) (λ none. inr (λ h. none ((fields.name, h.0), h.1, h.2))) (decide-some (InName P) (in-name P decide) (fields_of script line))

pub decide-item : (P : List ℕ → Type 0) → ((w : List ℕ) → Decidable (P w)) → (script : Script) (line : TextLine) → Decidable ((w : List ℕ) × Has script line fields.item_name w × P w)
decide-item P decide script line =
    ⊎_elim (λ h. inl (from-item P script line h.0 h.1 h.2)) (λ none. inr (λ h. none ((fields.item_name, h.0), h.1, h.2))) (decide-some (InItem P) (in-item P decide) (fields_of script line))

pub decide-text : (script : Script) (line : TextLine) → Decidable ((text : List ℕ) × Has script line fields.program text)
decide-text script line =
    ⊎_elim (λ h. inl (from-program script line h.0 h.1 h.2)) (λ none. inr (λ h. none ((fields.program, h.0), h.1, tt))) (decide-some InProgram in-program (fields_of script line))

-- the program of a line, or why it has none
abbrev IsRefusedIn : Before → TextLine → Type 0
IsRefusedIn before line = (text : List ℕ) × Has before.script line fields.program text × (refusal : Refusal) × IsRefused (declared_by before) text refusal

abbrev HasNoText : Script → TextLine → Type 0
HasNoText script line = (text : List ℕ) × Has script line fields.program text → ⊥

abbrev SomeProgram : Before → TextLine → Type 0
SomeProgram before line = ((p : Program) × HasProgram before line p) ⊎ (IsRefusedIn before line ⊎ HasNoText before.script line)

pub some-program : (before : Before) (line : TextLine) → SomeProgram before line
some-program before line =
    ⊎_elim
    (λ t. ⊎_elim (λ p. inl (p.0, (t.0, t.1, p.1))) (λ r. inr (inl (t.0, t.1, r.0, r.1))) (some_answer (declared_by before) t.0))
    (λ none. inr (inr none))
    (decide-text before.script line)

abbrev pub AtProgram : Before → TextLine → Type 0
AtProgram before line = (kind : Kind) × (column : ℕ) × HasLineCause before line (causes.at_program kind column)

at-text : (before : Before) (line : TextLine) (text other : List ℕ) (refusal : Refusal) → Has before.script line fields.program text → Has before.script line fields.program other → IsRefused (declared_by before) text refusal → IsRefused (declared_by before) other refusal
at-text before line text other refusal is also refused = subst (λ (t : List ℕ). IsRefused (declared_by before) t refusal) (one-text before.script line text other is also) refused

decide-refused : (before : Before) (line : TextLine) (text : List ℕ) (refusal : Refusal) → Has before.script line fields.program text → IsRefused (declared_by before) text refusal → Decidable (AtProgram before line)
decide-refused before line text (too_large n) has refused =
    inr (λ h. let same = ap (λ (t : List ℕ). length t) (one-text before.script line text h.2.0 has h.2.1) in omega (arith, same, refused.0, refused.1, h.2.2.0))
decide-refused before line text (at_fault kind column) has refused = inl (kind, column, (text, has, refused))

pub decide-fault : (before : Before) (line : TextLine) → SomeProgram before line → Decidable (AtProgram before line)
decide-fault before line (inl (p, has)) =
    inr (λ h. no_refusal (declared_by before) has.0 p (at_fault h.0 h.1) has.2 (at-text before line h.2.0 has.0 (at_fault h.0 h.1) h.2.1 has.1 h.2.2))
decide-fault before line (inr (inl (text, has, refusal, refused))) = decide-refused before line text refusal has refused
decide-fault before line (inr (inr none)) = inr (λ h. none (h.2.0, h.2.1))

pub decide-program : (before : Before) (line : TextLine) (Q : Program → Type 0) → ((p : Program) → Decidable (Q p)) → SomeProgram before line → Decidable ((p : Program) × HasProgram before line p × Q p)
decide-program before line Q decide (inl (p, has)) =
    ⊎_elim (λ q. inl (p, has, q)) (λ no_q. inr (λ h. no_q (subst Q (same-program before line h.0 p h.1 has) h.2))) (decide p)
decide-program before line Q decide (inr (inl (text, has, refusal, refused))) =
    inr (λ h. no_refusal (declared_by before) h.1.0 h.0 refusal h.1.2 (at-text before line text h.1.0 refusal has h.1.1 refused))
decide-program before line Q decide (inr (inr none)) = inr (λ h. none (h.1.0, h.1.1))

pub names_item-none : (p : Program) → AreItems p [] → (n : ℕ) → names_item p n ≡ false
names_item-none p are n = ⊎_elim (λ is. absurd (Contains-nil n (are.whole n is))) (λ isnt. not-named isnt) (decide-bool (names_item p n) true)
  where
    by : (b : Bool) → (b ≡ true → ⊥) → b ≡ false
    by true isnt = absurd (isnt refl)
    by false isnt = refl

    not-named : (names_item p n ≡ true → ⊥) → names_item p n ≡ false
    not-named isnt = by (names_item p n) isnt

pub decide-no_items : (p : Program) (items : List ℕ) → AreItems p items → Decidable ((n : ℕ) → names_item p n ≡ false)
decide-no_items p [] are = inl (names_item-none p are)
decide-no_items p (n ∷ items) are = inr (λ none. first-item p (n ∷ items) are (omega arith) none)

abbrev pub NamesMany : Program → Type 0
NamesMany p = (items : List ℕ) × AreItems p items × (MAX_PROGRAM_ITEMS < length items)

pub decide-many : (p : Program) → Decidable (NamesMany p)
decide-many p =
    let some = some_items p in
    ⊎_elim (λ l. inl (some.0, some.1, l))
    (λ no_l. inr (λ h. no_l (subst (λ (xs : List ℕ). MAX_PROGRAM_ITEMS < length xs) (one_items p h.0 some.0 h.1 some.1) h.2)))
    (decide-less MAX_PROGRAM_ITEMS (length some.0))
