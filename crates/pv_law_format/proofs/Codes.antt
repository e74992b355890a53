-- Codes: spellings from whose first bytes the value can be read. Parts that are codes, one after another, are a code.
use Rattle.std.proofs.Common.{◌≡◌, ◌⊎◌, ⊎_elim, ℕ, ◌+◌, List, [], ◌++◌, length, inl, inr, refl, sym, ap, ap₂, subst, ◌∙◌, append_assoc, arith}
use Rattle.std.specs.Prelude.{ℤ}
use Rattle.std.proofs.lemmas.List.{length-append}
use Rattle.pv_base.specs.BigEndian.{AreBytes}
use Rattle.pv_base.specs.Polyvalue.{Case}
use Rattle.pv_format.specs.FirstFault.{Fault, HasFaultBy}
use Rattle.pv_format.specs.Form.{Form}
use Rattle.pv_format.specs.Layout.{Layout}
use Rattle.pv_format.specs.Spelling.{◌followed_by◌, IsEmpty}
use Rattle.pv_law_format.proofs.Bytes.{later-bytes}

-- A value has one spelling.
abbrev pub IsSpelledOnce : {X : Type 0} → (X → List ℕ → Type 0) → Type 0
IsSpelledOnce {X} Spells = (x : X) (front other : List ℕ) → Spells x front → Spells x other → front ≡ other

-- Bytes that begin with a spelling begin with one of no other value, and the same follows.
abbrev pub IsReadOnce : {X : Type 0} → (X → List ℕ → Type 0) → Type 0
IsReadOnce {X} Spells = (x y : X) (front other rest others : List ℕ) → Spells x front → Spells y other → front ++ rest ≡ other ++ others
    → (x ≡ y) × (rest ≡ others)

-- The bytes begin with a spelling.
pub record Begins {X : Type 0} (Spells : X → List ℕ → Type 0) (bytes : List ℕ) : Type 0 where
  pub value : X
  pub front : List ℕ
  pub rest : List ℕ
  pub whole : bytes ≡ front ++ rest
  pub spelled : Spells value front

-- Three parts, grouped in the other way.

pub to-left : {A B C : List ℕ → Type 0} {bytes : List ℕ} → (A followed_by B followed_by C) bytes → ((A followed_by B) followed_by C) bytes
to-left s = record {
  front = s.front ++ s.second.front;
  back = s.second.back;
  whole = s.whole ∙ ap (λ (b : List ℕ). s.front ++ b) s.second.whole ∙ sym (append_assoc s.front s.second.front s.second.back);
  first = record { front = s.front; back = s.second.front; whole = refl; first = s.first; second = s.second.first };
  second = s.second.second;
}

pub to-right : {A B C : List ℕ → Type 0} {bytes : List ℕ} → ((A followed_by B) followed_by C) bytes → (A followed_by B followed_by C) bytes
to-right s = record {
  front = s.first.front;
  back = s.first.back ++ s.back;
  whole = s.whole ∙ ap (λ (f : List ℕ). f ++ s.back) s.first.whole ∙ append_assoc s.first.front s.first.back s.back;
  first = s.first.first;
  second = record { front = s.first.back; back = s.back; whole = refl; first = s.first.second; second = s.second };
}

-- The same with another first part.
pub with-first : {A B C : List ℕ → Type 0} {bytes : List ℕ} → ((front : List ℕ) → A front → B front) → (A followed_by C) bytes → (B followed_by C) bytes
with-first to s = record { front = s.front; back = s.back; whole = s.whole; first = to s.front s.first; second = s.second }

-- The same with another second part.
pub with-second : {A B C : List ℕ → Type 0} {bytes : List ℕ} → ((back : List ℕ) → B back → C back) → (A followed_by B) bytes → (A followed_by C) bytes
with-second to s = record { front = s.front; back = s.back; whole = s.whole; first = s.first; second = to s.back s.second }

module _ (SpellsPart : Form → List (Case ℤ) → List ℕ → Type 0) (PartFault : Form → ℕ → List ℕ → Fault → Type 0) where
  abbrev pub Faulty : Layout → ℕ → List ℕ → Fault → Type 0
  Faulty = HasFaultBy SpellsPart PartFault

  -- A spelling with a layout that finds a fault in bytes exactly where they don't begin with a spelling, or else in what follows.
  pub record IsCode {X : Type 0} (Spells : X → List ℕ → Type 0) (layout : Layout → Layout) : Type 0 where
    pub once : IsSpelledOnce Spells
    pub read : IsReadOnce Spells
    pub after : (x : X) (front rest : List ℕ) (next : Layout) (place : ℕ) (fault : Fault) → Spells x front
        → Faulty (layout next) place (front ++ rest) fault → Faulty next (place + length front) rest fault
    pub before : (x : X) (front rest : List ℕ) (next : Layout) (place : ℕ) (fault : Fault) → Spells x front
        → Faulty next (place + length front) rest fault → Faulty (layout next) place (front ++ rest) fault
    pub either : (bytes : List ℕ) → AreBytes bytes → (next : Layout) (place : ℕ)
        → Begins Spells bytes ⊎ ((fault : Fault) × Faulty (layout next) place bytes fault)

  -- nothing
  pub empty-code : IsCode {X = Unit {0}} (λ _. IsEmpty) (λ next. next)
  empty-code = record {
    once = λ x front other s t. s ∙ sym t;
    read = λ x y front other rest others s t same.
        (refl, ap (λ (f : List ℕ). f ++ rest) (sym s) ∙ same ∙ ap (λ (f : List ℕ). f ++ others) t);
    after = λ x front rest next place fault s is.
        subst (λ (f : List ℕ). Faulty next (place + length f) rest fault) (sym s)
        (subst (λ (n : ℕ). Faulty next n rest fault) (omega arith) (subst (λ (f : List ℕ). Faulty next place (f ++ rest) fault) s is));
    before = λ x front rest next place fault s is.
        subst (λ (f : List ℕ). Faulty next place (f ++ rest) fault) (sym s)
        (subst (λ (n : ℕ). Faulty next n rest fault) (omega arith) (subst (λ (f : List ℕ). Faulty next (place + length f) rest fault) s is));
    either = λ bytes all next place. inl (record { value = tt; front = []; rest = bytes; whole = refl; spelled = refl });
  }

  module _ {X Y : Type 0} {First : X → List ℕ → Type 0} {Second : Y → List ℕ → Type 0} {layout back_layout : Layout → Layout}
      (first : IsCode First layout) (second : IsCode Second back_layout) where
    -- two parts, one after the other
    abbrev pub Both : X × Y → List ℕ → Type 0
    Both both = First both.0 followed_by Second both.1

    parted : {Front Back : List ℕ → Type 0} {bytes : List ℕ} (s : (Front followed_by Back) bytes) (rest : List ℕ) → bytes ++ rest ≡ s.front ++ (s.back ++ rest)
    parted s rest = ap (λ (b : List ℕ). b ++ rest) s.whole ∙ append_assoc s.front s.back rest

    counted : {Front Back : List ℕ → Type 0} {bytes : List ℕ} (s : (Front followed_by Back) bytes) (place : ℕ)
        → place + length s.front + length s.back ≡ place + length bytes
    counted s place = omega (arith, ap (λ (b : List ℕ). length b) s.whole, length-append s.front s.back)

    both-read : IsReadOnce Both
    both-read p q front other rest others s t same =
        let fronts = first.read p.0 q.0 s.front t.front (s.back ++ rest) (t.back ++ others) s.first t.first (sym (parted s rest) ∙ same ∙ parted t others) in
        let backs = second.read p.1 q.1 s.back t.back rest others s.second t.second fronts.1 in
        ((λ i. (fronts.0 i, backs.0 i)), backs.1)

    both-after : (p : X × Y) (front rest : List ℕ) (next : Layout) (place : ℕ) (fault : Fault) → Both p front
        → Faulty (layout (back_layout next)) place (front ++ rest) fault → Faulty next (place + length front) rest fault
    both-after p front rest next place fault s is =
        let in_front = subst (λ (b : List ℕ). Faulty (layout (back_layout next)) place b fault) (parted s rest) is in
        let in_back = first.after p.0 s.front (s.back ++ rest) (back_layout next) place fault s.first in_front in
        subst (λ (n : ℕ). Faulty next n rest fault) (counted s place)
        (second.after p.1 s.back rest next (place + length s.front) fault s.second in_back)

    both-before : (p : X × Y) (front rest : List ℕ) (next : Layout) (place : ℕ) (fault : Fault) → Both p front
        → Faulty next (place + length front) rest fault → Faulty (layout (back_layout next)) place (front ++ rest) fault
    both-before p front rest next place fault s is =
        let there = subst (λ (n : ℕ). Faulty next n rest fault) (sym (counted s place)) is in
        let in_back = second.before p.1 s.back rest next (place + length s.front) fault s.second there in
        subst (λ (b : List ℕ). Faulty (layout (back_layout next)) place b fault) (sym (parted s rest))
        (first.before p.0 s.front (s.back ++ rest) (back_layout next) place fault s.first in_back)

    both-either : (bytes : List ℕ) → AreBytes bytes → (next : Layout) (place : ℕ)
        → Begins Both bytes ⊎ ((fault : Fault) × Faulty (layout (back_layout next)) place bytes fault)
    both-either bytes all next place =
        ⊎_elim
        (λ (f : Begins First bytes).
        ⊎_elim
        (λ (b : Begins Second f.rest). inl (record {
          value = (f.value, b.value);
          front = f.front ++ b.front;
          rest = b.rest;
          whole = f.whole ∙ ap (λ (r : List ℕ). f.front ++ r) b.whole ∙ sym (append_assoc f.front b.front b.rest);
          spelled = record { front = f.front; back = b.front; whole = refl; first = f.spelled; second = b.spelled };
        }))
        (λ (wrong : (fault : Fault) × Faulty (back_layout next) (place + length f.front) f.rest fault). inr (
          wrong.0,
          subst (λ (b : List ℕ). Faulty (layout (back_layout next)) place b wrong.0) (sym f.whole)
              (first.before f.value f.front f.rest (back_layout next) place wrong.0 f.spelled wrong.1),
        ))
        (second.either f.rest (later-bytes f.front f.rest (subst AreBytes f.whole all)) next (place + length f.front)))
        (λ wrong. inr wrong)
        (first.either bytes all (back_layout next) place)

    pub both-code : IsCode Both (λ next. layout (back_layout next))
    both-code = record {
      once = λ p front other s t. s.whole ∙ ap₂ (λ (f b : List ℕ). f ++ b) (first.once p.0 s.front t.front s.first t.first) (second.once p.1 s.back t.back s.second t.second) ∙ sym t.whole;
      read = both-read;
      after = both-after;
      before = both-before;
      either = both-either;
    }

  -- The same for values that stand for these where they are spelled, and spellings that are these.
  module _ {X Y : Type 0} {Spells : X → List ℕ → Type 0} {layout : Layout → Layout} (code : IsCode Spells layout) (SpellsToo : Y → List ℕ → Type 0)
      (of_value : Y → X) (value_of : X → Y) (back : (y : Y) (front : List ℕ) → SpellsToo y front → value_of (of_value y) ≡ y)
      (so : (y : Y) (front : List ℕ) → SpellsToo y front → Spells (of_value y) front) (too : (x : X) (front : List ℕ) → Spells x front → SpellsToo (value_of x) front) where
    pub code-where : IsCode SpellsToo layout
    code-where = record {
      once = λ y front other s t. code.once (of_value y) front other (so y front s) (so y other t);
      read = λ y z front other rest others s t same.
          let parts = code.read (of_value y) (of_value z) front other rest others (so y front s) (so z other t) same in
          (sym (back y front s) ∙ ap value_of parts.0 ∙ back z other t, parts.1);
      after = λ y front rest next place fault s. code.after (of_value y) front rest next place fault (so y front s);
      before = λ y front rest next place fault s. code.before (of_value y) front rest next place fault (so y front s);
      either = λ bytes all next place.
          ⊎_elim
          (λ (b : Begins Spells bytes). inl (record {
            value = value_of b.value;
            front = b.front;
            rest = b.rest;
            whole = b.whole;
            spelled = too b.value b.front b.spelled;
          }))
          (λ wrong. inr wrong)
          (code.either bytes all next place);
    }

  -- The same for values that stand for these, spelled or not.
  module _ {X Y : Type 0} {Spells : X → List ℕ → Type 0} {layout : Layout → Layout} (code : IsCode Spells layout) (SpellsToo : Y → List ℕ → Type 0)
      (of_value : Y → X) (value_of : X → Y) (back : (y : Y) → value_of (of_value y) ≡ y)
      (so : (y : Y) (front : List ℕ) → SpellsToo y front → Spells (of_value y) front) (too : (x : X) (front : List ℕ) → Spells x front → SpellsToo (value_of x) front) where
    pub code-of : IsCode SpellsToo layout
    code-of = code-where code SpellsToo of_value value_of (λ y front s. back y) so too
