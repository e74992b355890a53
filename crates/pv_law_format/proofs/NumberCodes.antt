-- Numbers are codes, and so are truth values and signed numbers.
use Rattle.std.proofs.Common.{◌≡◌, ◌⊎◌, ⊎_elim, ℕ, ◌+◌, ◌<◌, ◌^◌, Bool, true, false, List, ◌++◌, length, take, drop, inl, inr, refl, sym, ap, subst, ◌∙◌, arith}
use Rattle.std.specs.Prelude.{ℤ, IsTrue, if◌then◌else◌}
use Rattle.std.specs.Int.{w64, cast_signed}
use Rattle.std.proofs.Math.Facts.{sfits_to_z}
use Rattle.std.proofs.lemmas.List.{length-append}
use Rattle.std.proofs.lemmas.List.Elements.{All-take}
use Rattle.std.proofs.lemmas.Bool.{cases_Bool, cases_lt, ltb-true, true≢false}
use Rattle.pv_base.specs.BigEndian.{IsNumber, IsSigned, AreBytes, big_endian, number_of, twos_complement}
use Rattle.pv_base.specs.Polyvalue.{Case}
use Rattle.pv_base.proofs.BigEndianLemmas.{IsNumber-begins, IsNumber-length, big_endian-number_of, number_of-lt, twos_complement-lt, twos_complement-cast_signed, twos_complement-injective}
use Rattle.pv_format.specs.FirstFault.{Fault, HasFaultBy, short, bad_field, NumberFault, is_short, is_refused, is_later}
use Rattle.pv_format.specs.Form.{Form}
use Rattle.pv_format.specs.Layout.{Layout, number_then, any, truth_layout}
use Rattle.pv_format.specs.Spelling.{IsAllowed, IsTruth, is_truth}
use Rattle.pv_law_format.proofs.Bytes.{parted-at}
use Rattle.pv_law_format.proofs.Codes.{Begins, IsCode}

module _ (SpellsPart : Form → List (Case ℤ) → List ℕ → Type 0) (PartFault : Form → ℕ → List ℕ → Fault → Type 0) (size : ℕ) (allows : ℕ → Bool) where
  abbrev Faulty : Layout → ℕ → List ℕ → Fault → Type 0
  Faulty = HasFaultBy SpellsPart PartFault

  -- Where a number is read that is allowed, the fault is in what follows.
  pub after-number : (next : ℕ → Layout) (place : ℕ) (value : ℕ) (front rest : List ℕ) (fault : Fault) → IsAllowed size allows value front
      → NumberFault size allows (λ n. Faulty (next n)) place (front ++ rest) fault → Faulty (next value) (place + size) rest fault
  after-number next place value front rest _ s (is_short less) =
      absurd (omega (arith, less, length-append front rest, IsNumber-length size value front s.spelled))
  after-number next place value front rest _ s (is_refused other begin end whole is refused) =
      let parts = IsNumber-begins size value other front begin rest end s.spelled is whole in
      absurd (true≢false (sym s.allowed ∙ ap allows parts.0 ∙ refused))
  after-number next place value front rest _ s (is_later other begin end fault whole is wrong) =
      let parts = IsNumber-begins size value other front begin rest end s.spelled is.spelled whole in
      subst (λ (n : ℕ). Faulty (next n) (place + size) rest fault) (sym parts.0)
      (subst (λ (r : List ℕ). Faulty (next other) (place + size) r fault) (sym parts.1) wrong)

  -- Bytes begin with a number that is allowed, or it is short or isn't allowed.
  pub either-number : (bytes : List ℕ) → AreBytes bytes → (next : ℕ → Layout) (place : ℕ)
      → Begins (IsAllowed size allows) bytes ⊎ ((fault : Fault) × Faulty (number_then size allows next) place bytes fault)
  either-number bytes all next place =
      ⊎_elim
      (λ less. inr (short place, is_short less))
      (λ enough.
      let parts = parted-at size bytes enough in
      let all_front = All-take (λ byte. byte < 256) size bytes all in
      let number = number_of (take size bytes) in
      let is : IsNumber size number (take size bytes) = record {
        fits = subst (λ (n : ℕ). number < 256 ^ n) parts.1 (number_of-lt (take size bytes) all_front);
        spelled = sym (big_endian-number_of (take size bytes) all_front) ∙ ap (λ (n : ℕ). big_endian n number) parts.1;
      } in
      ⊎_elim
      (λ allowed. inl (record { value = number; front = take size bytes; rest = drop size bytes; whole = parts.0; spelled = record { spelled = is; allowed = allowed } }))
      (λ refused. inr (bad_field place, is_refused number (take size bytes) (drop size bytes) parts.0 is refused))
      (cases_Bool (allows number)))
      (cases_lt (length bytes) size)

  -- A value that stands for a number in so many bytes.
  module _ {X : Type 0} (Spells : X → List ℕ → Type 0) (number_for : X → ℕ)
      (spelled_so : (x : X) (front : List ℕ) → Spells x front → IsAllowed size allows (number_for x) front)
      (one : (x y : X) (front other : List ℕ) → Spells x front → Spells y other → number_for x ≡ number_for y → x ≡ y)
      (some : (number : ℕ) (front : List ℕ) → IsAllowed size allows number front → (x : X) × Spells x front) where
    pub number-for-code : IsCode SpellsPart PartFault Spells (λ next. number_then size allows (λ _. next))
    number-for-code = record {
      once = λ x front other s t. (spelled_so x front s).spelled.spelled ∙ sym (spelled_so x other t).spelled.spelled;
      read = λ x y front other rest others s t same.
          let parts = IsNumber-begins size (number_for x) (number_for y) front other rest others (spelled_so x front s).spelled (spelled_so y other t).spelled same in
          (one x y front other s t parts.0, parts.1);
      after = λ x front rest next place fault s is.
          subst (λ (n : ℕ). Faulty next (place + n) rest fault) (sym (IsNumber-length size (number_for x) front (spelled_so x front s).spelled))
          (after-number (λ _. next) place (number_for x) front rest fault (spelled_so x front s) is);
      before = λ x front rest next place fault s is.
          is_later (number_for x) front rest fault refl (spelled_so x front s)
          (subst (λ (n : ℕ). Faulty next (place + n) rest fault) (IsNumber-length size (number_for x) front (spelled_so x front s).spelled) is);
      either = λ bytes all next place.
          ⊎_elim
          (λ (b : Begins (IsAllowed size allows) bytes).
          let found = some b.value b.front b.spelled in
          inl (record { value = found.0; front = b.front; rest = b.rest; whole = b.whole; spelled = found.1 }))
          (λ wrong. inr wrong)
          (either-number bytes all (λ _. next) place);
    }

  pub allowed-code : IsCode SpellsPart PartFault (IsAllowed size allows) (λ next. number_then size allows (λ _. next))
  allowed-code = number-for-code (IsAllowed size allows) (λ n. n) (λ n front s. s) (λ m n front other s t same. same) (λ n front s. (n, s))

module _ (SpellsPart : Form → List (Case ℤ) → List ℕ → Type 0) (PartFault : Form → ℕ → List ℕ → Fault → Type 0) where
  pub number-code : (size : ℕ) → IsCode SpellsPart PartFault (IsNumber size) (λ next. number_then size any (λ _. next))
  number-code size =
      number-for-code SpellsPart PartFault size any (IsNumber size) (λ n. n)
      (λ n front s. record { spelled = s; allowed = refl }) (λ m n front other s t same. same) (λ n front s. (n, s.spelled))

  truth-allowed : (b : Bool) → IsTrue (is_truth (if b then 1 else 0))
  truth-allowed true = refl
  truth-allowed false = refl

  truth-one : (b c : Bool) → ◌≡◌ {A = ℕ} (if b then 1 else 0) (if c then 1 else 0) → b ≡ c
  truth-one true true same = refl
  truth-one true false same = absurd (omega (arith, same))
  truth-one false true same = absurd (omega (arith, same))
  truth-one false false same = refl

  truth-some : (number : ℕ) (front : List ℕ) → IsAllowed 1 is_truth number front → (b : Bool) × IsTruth b front
  truth-some number front s =
      ⊎_elim
      (λ less. (false, subst (λ (n : ℕ). IsNumber 1 n front) (omega (arith, less)) s.spelled))
      (λ more. (true, subst (λ (n : ℕ). IsNumber 1 n front) (omega (arith, more, ltb-true number 2 s.allowed)) s.spelled))
      (cases_lt number 1)

  pub truth-code : IsCode SpellsPart PartFault IsTruth truth_layout
  truth-code =
      number-for-code SpellsPart PartFault 1 is_truth IsTruth (λ b. if b then 1 else 0)
      (λ b front s. record { spelled = s; allowed = truth-allowed b }) (λ b c front other s t same. truth-one b c same) truth-some

  signed-some : (number : ℕ) (front : List ℕ) → IsAllowed 8 any number front → (z : ℤ) × IsSigned z front
  signed-some number front s = (
    cast_signed w64 number,
    record {
      fits = sfits_to_z {w = w64} {n = number} (record { fits = omega (arith, s.spelled.fits) });
      spelled = s.spelled.spelled ∙ ap (λ (n : ℕ). big_endian 8 n) (sym (twos_complement-cast_signed number s.spelled.fits));
    },
  )

  pub signed-code : IsCode SpellsPart PartFault IsSigned (λ next. number_then 8 any (λ _. next))
  signed-code =
      number-for-code SpellsPart PartFault 8 any IsSigned twos_complement
      (λ z front s. record { spelled = record { fits = twos_complement-lt z s.fits; spelled = s.spelled }; allowed = refl })
      (λ y z front other s t same. twos_complement-injective y z s.fits t.fits same)
      signed-some
