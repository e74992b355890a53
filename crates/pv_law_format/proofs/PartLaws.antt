-- A part that is whole fields, of which only some are taken for a value: what it takes for its spellings and faults to be those of a part.
use Rattle.std.proofs.Common.{◌≡◌, ◌⊎◌, ⊎_elim, ℕ, List, ◌++◌, inl, inr, refl, sym, ap, subst, ◌∙◌}
use Rattle.std.specs.Prelude.{ℤ}
use Rattle.pv_base.specs.BigEndian.{AreBytes}
use Rattle.pv_base.specs.Polyvalue.{Case}
use Rattle.pv_format.specs.FirstFault.{Fault, bad_poly, HasFieldFault}
use Rattle.pv_format.specs.Form.{Form}
use Rattle.pv_format.specs.Layout.{Layout, anything}
use Rattle.pv_law_format.proofs.Codes.{Begins, IsCode, IsReadOnce, IsSpelledOnce}
use Rattle.pv_law_format.proofs.OneFault.{IsPart, one-fault}

-- Within a polyvalue there is no other one.

abbrev pub NoPart : Form → List (Case ℤ) → List ℕ → Type 0
NoPart form cases bytes = ⊥

abbrev pub NoFault : Form → ℕ → List ℕ → Fault → Type 0
NoFault form place bytes fault = ⊥

no-part : IsPart NoPart NoFault
no-part = record {
  read = λ form x y front other rest others s t same. absurd s;
  one = λ form place bytes fault other s t. absurd s;
  not_both = λ form cases front rest place fault s t. absurd s;
}

-- Whole fields stand there that aren't taken for a polyvalue.
pub record IsUnfit {X : Type 0} (Whole : X → List ℕ → Type 0) (Is : X → Type 0) (place : ℕ) (bytes : List ℕ) (fault : Fault) : Type 0 where
  pub value : X
  pub front : List ℕ
  pub rest : List ℕ
  pub whole : bytes ≡ front ++ rest
  pub there : Whole value front
  pub none : Is value → ⊥
  pub is : fault ≡ bad_poly place

-- The fields of the cases, which are taken for these.
pub record IsWhole {X : Type 0} (Whole : X → List ℕ → Type 0) (Is : X → Type 0) (cases_for : X → List (Case ℤ)) (cases : List (Case ℤ)) (bytes : List ℕ) : Type 0 where
  pub value : X
  pub is : cases_for value ≡ cases
  pub fit : Is value
  pub there : Whole value bytes

module _ {X : Type 0} (Whole : X → List ℕ → Type 0) {layout : Layout → Layout} (code : IsCode NoPart NoFault Whole layout) (cases_for : X → List (Case ℤ))
    (Is : X → Type 0) (decided : (x : X) → Is x ⊎ (Is x → ⊥)) (one : (x y : X) → Is x → Is y → cases_for x ≡ cases_for y → x ≡ y)
    (Spells : List (Case ℤ) → List ℕ → Type 0)
    (so : (cases : List (Case ℤ)) (bytes : List ℕ) → Spells cases bytes → IsWhole Whole Is cases_for cases bytes)
    (too : (x : X) (bytes : List ℕ) → Is x → Whole x bytes → Spells (cases_for x) bytes)
    (Faults : ℕ → List ℕ → Fault → Type 0)
    (fault-so : (place : ℕ) (bytes : List ℕ) (fault : Fault) → Faults place bytes fault → HasFieldFault (layout anything) place bytes fault ⊎ IsUnfit Whole Is place bytes fault)
    (field-too : (place : ℕ) (bytes : List ℕ) (fault : Fault) → HasFieldFault (layout anything) place bytes fault → Faults place bytes fault)
    (unfit-too : (place : ℕ) (bytes : List ℕ) (fault : Fault) → IsUnfit Whole Is place bytes fault → Faults place bytes fault) where
  pub part-once : IsSpelledOnce Spells
  part-once cases front other s t =
      let a = so cases front s in
      let b = so cases other t in
      code.once b.value front other (subst (λ (x : X). Whole x front) (one a.value b.value a.fit b.fit (a.is ∙ sym b.is)) a.there) b.there

  pub part-read : IsReadOnce Spells
  part-read cases others front other rest more s t same =
      let a = so cases front s in
      let b = so others other t in
      let parts = code.read a.value b.value front other rest more a.there b.there same in
      (sym a.is ∙ ap cases_for parts.0 ∙ b.is, parts.1)

  no-field-fault : (x : X) (front rest : List ℕ) (place : ℕ) (fault : Fault) → Whole x front → HasFieldFault (layout anything) place (front ++ rest) fault → ⊥
  no-field-fault x front rest place fault s is = code.after x front rest anything place fault s is

  pub part-not-both : (cases : List (Case ℤ)) (front rest : List ℕ) (place : ℕ) (fault : Fault) → Spells cases front → Faults place (front ++ rest) fault → ⊥
  part-not-both cases front rest place fault s wrong =
      let a = so cases front s in
      ⊎_elim
      (λ field. no-field-fault a.value front rest place fault a.there field)
      (λ (unfit : IsUnfit Whole Is place (front ++ rest) fault).
      unfit.none (subst Is (sym (code.read unfit.value a.value unfit.front front unfit.rest rest unfit.there a.there (sym unfit.whole)).0) a.fit))
      (fault-so place (front ++ rest) fault wrong)

  pub part-one : (place : ℕ) (bytes : List ℕ) (fault other : Fault) → Faults place bytes fault → Faults place bytes other → fault ≡ other
  part-one place bytes fault other wrong wrong_too =
      ⊎_elim
      (λ field. ⊎_elim
      (λ field_too. one-fault no-part (layout anything) place bytes fault other field field_too)
      (λ (unfit : IsUnfit Whole Is place bytes other).
      absurd (no-field-fault unfit.value unfit.front unfit.rest place fault unfit.there (subst (λ (b : List ℕ). HasFieldFault (layout anything) place b fault) unfit.whole field)))
      (fault-so place bytes other wrong_too))
      (λ (unfit : IsUnfit Whole Is place bytes fault). ⊎_elim
      (λ field_too.
      absurd (no-field-fault unfit.value unfit.front unfit.rest place other unfit.there (subst (λ (b : List ℕ). HasFieldFault (layout anything) place b other) unfit.whole field_too)))
      (λ (unfit_too : IsUnfit Whole Is place bytes other). unfit.is ∙ sym unfit_too.is)
      (fault-so place bytes other wrong_too))
      (fault-so place bytes fault wrong)

  pub part-either : (bytes : List ℕ) → AreBytes bytes → (place : ℕ) → Begins Spells bytes ⊎ ((fault : Fault) × Faults place bytes fault)
  part-either bytes all place =
      ⊎_elim
      (λ (b : Begins Whole bytes). ⊎_elim
      (λ is. inl (record { value = cases_for b.value; front = b.front; rest = b.rest; whole = b.whole; spelled = too b.value b.front is b.spelled }))
      (λ none. inr (
        bad_poly place,
        unfit-too place bytes (bad_poly place)
            (record { value = b.value; front = b.front; rest = b.rest; whole = b.whole; there = b.spelled; none = none; is = refl }),
      ))
      (decided b.value))
      (λ wrong. inr (wrong.0, field-too place bytes wrong.0 wrong.1))
      (code.either bytes all anything place)
