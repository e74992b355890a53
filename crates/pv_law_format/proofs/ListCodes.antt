-- Lists are codes: a count and then so many values, or so many entries with ascending items.
use Rattle.std.proofs.Common.{◌≡◌, ◌⊎◌, ⊎_elim, ℕ, zero, suc, ◌+◌, Bool, List, [], ◌∷◌, ◌++◌, length, inl, inr, refl, sym, ap, ap₂, subst, ◌∙◌, append_assoc, arith}
use Rattle.std.specs.Prelude.{ℤ, IsTrue}
use Rattle.std.proofs.lemmas.List.{length-append}
use Rattle.pv_base.specs.BigEndian.{AreBytes}
use Rattle.pv_base.specs.Polyvalue.{Case}
use Rattle.pv_base.proofs.BigEndianLemmas.{IsNumber-begins, IsNumber-length}
use Rattle.pv_format.specs.FirstFault.{Fault, HasFaultBy, is_later}
use Rattle.pv_format.specs.Form.{Form}
use Rattle.pv_format.specs.Layout.{Layout, number_then, repeated, entries_layout, counted_layout}
use Rattle.pv_format.specs.Spelling.{◌followed_by◌, IsAllowed, SpellsEach, SpellsEntriesFrom, SpellsEntries, is_item_from, is_count_from}
use Rattle.pv_law_format.proofs.Bytes.{later-bytes}
use Rattle.pv_law_format.proofs.Codes.{Begins, IsCode, IsReadOnce, empty-code, both-code, code-of}
use Rattle.pv_law_format.proofs.NumberCodes.{after-number, either-number}

-- So many values.
abbrev Many : ℕ → Type 0 → Type 0
Many zero X = Unit {0}
Many (suc n) X = X × Many n X

abbrev list_of : {X : Type 0} (n : ℕ) → Many n X → List X
list_of zero many = []
list_of (suc n) many = many.0 ∷ list_of n many.1

-- A list has its length of values.
abbrev many_of : {X : Type 0} (xs : List X) → (n : ℕ) × Many n X
many_of [] = (zero, tt)
many_of (x ∷ xs) = (suc (many_of xs).0, (x, (many_of xs).1))

list-many : {X : Type 0} (xs : List X) → list_of (many_of xs).0 (many_of xs).1 ≡ xs
list-many [] = refl
list-many (x ∷ xs) = ap (λ ys. x ∷ ys) (list-many xs)

count-many : {X : Type 0} (xs : List X) → (many_of xs).0 ≡ length xs
count-many [] = refl
count-many (x ∷ xs) = let rest = count-many xs in omega (arith, rest)

length-list_of : (X : Type 0) (n : ℕ) (many : Many n X) → length (list_of n many) ≡ n
length-list_of X zero many = refl
length-list_of X (suc n) many = let rest = length-list_of X n many.1 in omega (arith, rest)

module _ (SpellsPart : Form → List (Case ℤ) → List ℕ → Type 0) (PartFault : Form → ℕ → List ℕ → Fault → Type 0) where
  abbrev Faulty : Layout → ℕ → List ℕ → Fault → Type 0
  Faulty = HasFaultBy SpellsPart PartFault

  -- A number, and then what this number asks for.
  module _ (size : ℕ) (allows : ℕ → Bool) {Y : ℕ → Type 0} (Second : (n : ℕ) → Y n → List ℕ → Type 0) (layout : ℕ → Layout → Layout)
      (second : (n : ℕ) → IsTrue (allows n) → IsCode SpellsPart PartFault (Second n) (layout n)) where
    abbrev pub Numbered : ((n : ℕ) × Y n) → List ℕ → Type 0
    Numbered both = IsAllowed size allows both.0 followed_by Second both.0 both.1

    parted : {Front Back : List ℕ → Type 0} {bytes : List ℕ} (s : (Front followed_by Back) bytes) (rest : List ℕ) → bytes ++ rest ≡ s.front ++ (s.back ++ rest)
    parted s rest = ap (λ (b : List ℕ). b ++ rest) s.whole ∙ append_assoc s.front s.back rest

    counted : (p : (n : ℕ) × Y n) {bytes : List ℕ} (s : Numbered p bytes) (place : ℕ) → place + size + length s.back ≡ place + length bytes
    counted p s place =
        omega (arith, ap (λ (b : List ℕ). length b) s.whole, length-append s.front s.back, IsNumber-length size p.0 s.front s.first.spelled)

    same-second : (n : ℕ) (y : Y n) (back rest other others : List ℕ) → IsTrue (allows n) → Second n y back → (m : ℕ) → n ≡ m → (z : Y m) → Second m z other → back ++ rest ≡ other ++ others
        → ◌≡◌ {A = (k : ℕ) × Y k} (n, y) (m, z) × (rest ≡ others)
    same-second n y back rest other others allowed s m e =
        subst (λ (m : ℕ). (z : Y m) → Second m z other → back ++ rest ≡ other ++ others → ◌≡◌ {A = (k : ℕ) × Y k} (n, y) (m, z) × (rest ≡ others)) e
        (λ z t same.
        let parts = (second n allowed).read y z back other rest others s t same in
        ((λ i. (n, parts.0 i)), parts.1))

    numbered-read : IsReadOnce Numbered
    numbered-read p q front other rest others s t same =
        let fronts = IsNumber-begins size p.0 q.0 s.front t.front (s.back ++ rest) (t.back ++ others) s.first.spelled t.first.spelled
        (sym (parted s rest) ∙ same ∙ parted t others) in
        same-second p.0 p.1 s.back rest t.back others s.first.allowed s.second q.0 fronts.0 q.1 t.second fronts.1

    numbered-after : (p : (n : ℕ) × Y n) (front rest : List ℕ) (next : Layout) (place : ℕ) (fault : Fault) → Numbered p front
        → Faulty (number_then size allows (λ n. layout n next)) place (front ++ rest) fault → Faulty next (place + length front) rest fault
    numbered-after p front rest next place fault s is =
        let in_front = subst (λ (b : List ℕ). Faulty (number_then size allows (λ n. layout n next)) place b fault) (parted s rest) is in
        let in_back = after-number SpellsPart PartFault size allows (λ n. layout n next) place p.0 s.front (s.back ++ rest) fault s.first in_front in
        subst (λ (n : ℕ). Faulty next n rest fault) (counted p s place)
        ((second p.0 s.first.allowed).after p.1 s.back rest next (place + size) fault s.second in_back)

    numbered-before : (p : (n : ℕ) × Y n) (front rest : List ℕ) (next : Layout) (place : ℕ) (fault : Fault) → Numbered p front
        → Faulty next (place + length front) rest fault → Faulty (number_then size allows (λ n. layout n next)) place (front ++ rest) fault
    numbered-before p front rest next place fault s is =
        let there = subst (λ (n : ℕ). Faulty next n rest fault) (sym (counted p s place)) is in
        let in_back = (second p.0 s.first.allowed).before p.1 s.back rest next (place + size) fault s.second there in
        is_later p.0 s.front (s.back ++ rest) fault (parted s rest) s.first in_back

    numbered-either : (bytes : List ℕ) → AreBytes bytes → (next : Layout) (place : ℕ)
        → Begins Numbered bytes ⊎ ((fault : Fault) × Faulty (number_then size allows (λ n. layout n next)) place bytes fault)
    numbered-either bytes all next place =
        ⊎_elim
        (λ (f : Begins (IsAllowed size allows) bytes).
        ⊎_elim
        (λ (b : Begins (Second f.value) f.rest). inl (record {
          value = (f.value, b.value);
          front = f.front ++ b.front;
          rest = b.rest;
          whole = f.whole ∙ ap (λ (r : List ℕ). f.front ++ r) b.whole ∙ sym (append_assoc f.front b.front b.rest);
          spelled = record { front = f.front; back = b.front; whole = refl; first = f.spelled; second = b.spelled };
        }))
        (λ (wrong : (fault : Fault) × Faulty (layout f.value next) (place + size) f.rest fault).
        inr (wrong.0, is_later f.value f.front f.rest wrong.0 f.whole f.spelled wrong.1))
        ((second f.value f.spelled.allowed).either f.rest (later-bytes f.front f.rest (subst AreBytes f.whole all)) next (place + size)))
        (λ wrong. inr wrong)
        (either-number SpellsPart PartFault size allows bytes all (λ n. layout n next) place)

    numbered-once : (p : (n : ℕ) × Y n) (front other : List ℕ) → Numbered p front → Numbered p other → front ≡ other
    numbered-once p front other s t =
        s.whole
        ∙ ap₂ (λ (f b : List ℕ). f ++ b) (s.first.spelled.spelled ∙ sym t.first.spelled.spelled) ((second p.0 s.first.allowed).once p.1 s.back t.back s.second t.second)
        ∙ sym t.whole

    pub numbered-code : IsCode SpellsPart PartFault Numbered (λ next. number_then size allows (λ n. layout n next))
    numbered-code = record { once = numbered-once; read = numbered-read; after = numbered-after; before = numbered-before; either = numbered-either }

  module _ {X : Type 0} {Spells : X → List ℕ → Type 0} {layout : Layout → Layout} (code : IsCode SpellsPart PartFault Spells layout) where
    many-code : (n : ℕ) → IsCode SpellsPart PartFault (λ (many : Many n X). SpellsEach Spells (list_of n many)) (repeated n layout)
    many-code zero = empty-code SpellsPart PartFault
    many-code (suc n) = both-code SpellsPart PartFault code (many-code n)

    -- a count, and so many values
    pub each-code : (size : ℕ) (allows : ℕ → Bool)
        → IsCode SpellsPart PartFault (λ (xs : List X). IsAllowed size allows (length xs) followed_by SpellsEach Spells xs)
        (λ next. number_then size allows (λ count. repeated count layout next))
    each-code size allows =
        code-of SpellsPart PartFault
        (numbered-code size allows {Y = λ n. Many n X} (λ n many. SpellsEach Spells (list_of n many)) (λ n. repeated n layout) (λ n allowed. many-code n))
        (λ (xs : List X). IsAllowed size allows (length xs) followed_by SpellsEach Spells xs)
        many_of (λ p. list_of p.0 p.1) list-many
        (λ xs front s. record {
          front = s.front;
          back = s.back;
          whole = s.whole;
          first = subst (λ (n : ℕ). IsAllowed size allows n s.front) (sym (count-many xs)) s.first;
          second = subst (λ (ys : List X). SpellsEach Spells ys s.back) (sym (list-many xs)) s.second;
        })
        (λ p front s. record {
          front = s.front;
          back = s.back;
          whole = s.whole;
          first = subst (λ (n : ℕ). IsAllowed size allows n s.front) (sym (length-list_of X p.0 p.1)) s.first;
          second = s.second;
        })

  -- Entries of an item and what stands with it.
  module _ {X P : Type 0} (item_of : X → ℕ) (part_of : X → P) (entry : ℕ → P → X)
      (items : (item : ℕ) (part : P) → item_of (entry item part) ≡ item) (parts : (item : ℕ) (part : P) → part_of (entry item part) ≡ part)
      (whole : (x : X) → entry (item_of x) (part_of x) ≡ x)
      {Spells : P → List ℕ → Type 0} {layout : Layout → Layout} (code : IsCode SpellsPart PartFault Spells layout) where
    abbrev Entries : ℕ → List X → List ℕ → Type 0
    Entries = SpellsEntriesFrom (λ x. Spells (part_of x)) item_of

    entries-many : (n least : ℕ) → IsCode SpellsPart PartFault (λ (many : Many n X). Entries least (list_of n many)) (entries_layout n layout least)
    entries-many zero least = empty-code SpellsPart PartFault
    entries-many (suc n) least =
        code-of SpellsPart PartFault
        (numbered-code 4 (is_item_from least) {Y = λ _. P × Many n X} (λ item both. Spells both.0 followed_by Entries (item + 1) (list_of n both.1))
        (λ item next. layout (entries_layout n layout (item + 1) next))
        (λ item allowed. both-code SpellsPart PartFault code (entries-many n (item + 1))))
        (λ (many : Many (suc n) X). Entries least (list_of (suc n) many))
        (λ many. (item_of many.0, (part_of many.0, many.1)))
        (λ p. (entry p.0 p.1.0, p.1.1))
        (λ many. (λ i. (whole many.0 i, many.1)))
        (λ many front s. s)
        (λ p front s. record {
          front = s.front;
          back = s.back;
          whole = s.whole;
          first = subst (λ (k : ℕ). IsAllowed 4 (is_item_from least) k s.front) (sym (items p.0 p.1.0)) s.first;
          second = subst (λ (k : ℕ). (Spells (part_of (entry p.0 p.1.0)) followed_by Entries (k + 1) (list_of n p.1.1)) s.back) (sym (items p.0 p.1.0))
              (subst (λ (q : P). (Spells q followed_by Entries (p.0 + 1) (list_of n p.1.1)) s.back) (sym (parts p.0 p.1.0)) s.second);
        })

    pub entries-code : (fewest : ℕ) → IsCode SpellsPart PartFault (SpellsEntries (λ x. Spells (part_of x)) item_of fewest) (counted_layout fewest layout)
    entries-code fewest =
        code-of SpellsPart PartFault
        (numbered-code 1 (is_count_from fewest) {Y = λ n. Many n X} (λ n many. Entries 0 (list_of n many)) (λ n. entries_layout n layout 0) (λ n allowed. entries-many n 0))
        (SpellsEntries (λ x. Spells (part_of x)) item_of fewest)
        many_of (λ p. list_of p.0 p.1) list-many
        (λ xs front s. record {
          front = s.front;
          back = s.back;
          whole = s.whole;
          first = subst (λ (n : ℕ). IsAllowed 1 (is_count_from fewest) n s.front) (sym (count-many xs)) s.first;
          second = subst (λ (ys : List X). Entries 0 ys s.back) (sym (list-many xs)) s.second;
        })
        (λ p front s. record {
          front = s.front;
          back = s.back;
          whole = s.whole;
          first = subst (λ (n : ℕ). IsAllowed 1 (is_count_from fewest) n s.front) (sym (length-list_of X p.0 p.1)) s.first;
          second = s.second;
        })
