-- One number after another: what was read is spelled, and a fault stays one for what is read before it.
use Rattle.std.proofs.Common.{◌≡◌, ℕ, ◌+◌, ◌^◌, ◌<◌, Bool, true, false, List, ◌++◌, Option, Some, None, Result, Ok, Err, IfOk, IsTrue, IsFalse, if◌then◌else◌, refl, sym, ap, subst, ◌∙◌, append_assoc, length-append, arith}
use Rattle.pv_base.specs.BigEndian.{big_endian, IsNumber}
use Rattle.pv_base.proofs.BigEndianLemmas.{length-big_endian}
use Rattle.pv_bytes.specs.Reading.{Rest, HasTaken, IsShort}
use Rattle.pv_bytes.specs.declared.short.Short.{Short}
use Rattle.pv_format.specs.FirstFault.{Fault, short, bad_field, HasFault, is_short, is_refused, is_later}
use Rattle.pv_format.specs.Layout.{Layout, number_then, any, truth_layout}
use Rattle.pv_format.specs.Spelling.{◌followed_by◌, IsAllowed, IsTruth, is_truth}
use Rattle.pv_fields.specs.Decoding.{IsTaken, Passes, PassesNumber, Stops, StopsNumber}

-- Two takings, one after the other.
pub HasTaken-both : (front back : List ℕ) (old mid new : Rest) → HasTaken front old mid → HasTaken back mid new → HasTaken (front ++ back) old new
HasTaken-both front back old mid new first second = record {
  bytes = first.bytes ∙ ap (λ left. front ++ left) second.bytes ∙ sym (append_assoc front back new.left);
  place = let count = length-append front back in omega (arith, first.place, second.place, count);
}

-- One part after the other.
pub IsTaken-both : (First Second : List ℕ → Type 0) (old mid new : Rest) → IsTaken First old mid → IsTaken Second mid new → IsTaken (First followed_by Second) old new
IsTaken-both First Second old mid new first second = record {
  front = first.front ++ second.front;
  is = record { front = first.front; back = second.front; whole = refl; first = first.is; second = second.is };
  taken = HasTaken-both first.front second.front old mid new first.taken second.taken;
}

module _ (size value : ℕ) (old new : Rest) (taken : HasTaken (big_endian size value) old new) (fits : value < 256 ^ size) where
  -- The bytes taken are the number.
  taken_number : IsNumber size value (big_endian size value)
  taken_number = record { fits = fits; spelled = refl }

  place-number : new.place ≡ old.place + size
  place-number = taken.place ∙ ap (λ count. old.place + count) (length-big_endian size value)

  -- A number was read that may be any.
  pub taken_any : IsTaken (IsNumber size value) old new
  taken_any = record { front = big_endian size value; is = taken_number; taken = taken }

  module _ (allows : ℕ → Bool) where
    -- A number that is allowed was read.
    pub passes_number : IsTrue (allows value) → PassesNumber (IsAllowed size allows value) size allows value old new
    passes_number allowed = record {
      taken = record { front = big_endian size value; is = record { spelled = taken_number; allowed = allowed }; taken = taken };
      later = λ next fault has. is_later value (big_endian size value) new.left fault taken.bytes
          (record { spelled = taken_number; allowed = allowed }) (subst (λ place. HasFault (next value) place new.left fault) place-number has);
    }

    -- A number that isn't allowed was read.
    pub stops_number : IsFalse (allows value) → StopsNumber size allows old (Some (bad_field old.place))
    stops_number refused = λ next. is_refused value (big_endian size value) new.left taken.bytes taken_number refused

-- The bytes end within the number.
pub stops_short : (size : ℕ) (allows : ℕ → Bool) (old new : Rest) (e : Short) → IsShort size old new e → StopsNumber size allows old (Some (short e.0))
stops_short size allows old new e is = λ next.
    subst (λ place. HasFault (number_then size allows next) old.place old.left (short place)) (sym is.place) (is_short is.fewer)

-- Where the layout goes on the same after every number, the number is a part like others.
pub passes_part : (Is : List ℕ → Type 0) (size : ℕ) (allows : ℕ → Bool) (value : ℕ) (old new : Rest) → PassesNumber Is size allows value old new
    → Passes Is (λ next. number_then size allows (λ _. next)) old new
passes_part Is size allows value old new passes = record { taken = passes.taken; later = λ next fault has. passes.later (λ _. next) fault has }

-- A number was read that may be any, and the layout may go on by what it is.
pub number_any : (size value : ℕ) (old new : Rest) → HasTaken (big_endian size value) old new → value < 256 ^ size
    → PassesNumber (IsNumber size value) size any value old new
number_any size value old new taken fits = record {
  taken = taken_any size value old new taken fits;
  later = (passes_number size value old new taken fits any refl).later;
}

-- A number was read that is allowed, and only what it is matters.
pub number_allowed : (size value : ℕ) (allows : ℕ → Bool) (old new : Rest) → HasTaken (big_endian size value) old new → value < 256 ^ size → IsTrue (allows value)
    → PassesNumber (IsNumber size value) size allows value old new
number_allowed size value allows old new taken fits allowed = record {
  taken = taken_any size value old new taken fits;
  later = (passes_number size value old new taken fits allows allowed).later;
}

-- A part that is one thing is another, where all that is the one is the other.
pub passes_as : (Is Js : List ℕ → Type 0) (layout : Layout → Layout) (old new : Rest) → ((bytes : List ℕ) → Is bytes → Js bytes) → Passes Is layout old new → Passes Js layout old new
passes_as Is Js layout old new as_ passes = record {
  taken = record { front = passes.taken.front; is = as_ passes.taken.front passes.taken.is; taken = passes.taken.taken };
  later = passes.later;
}

-- Any number was read, where the layout goes on the same after every one.
pub passes_any : (size value : ℕ) (old new : Rest) → HasTaken (big_endian size value) old new → value < 256 ^ size
    → Passes (IsNumber size value) (λ next. number_then size any (λ _. next)) old new
passes_any size value old new taken fits = record {
  taken = taken_any size value old new taken fits;
  later = λ next fault has. (passes_number size value old new taken fits any refl).later (λ _. next) fault has;
}

fits_truth : (truth : Bool) → (if truth then 1 else 0) < 256 ^ 1
fits_truth true = omega arith
fits_truth false = omega arith

is_truth-truth : (truth : Bool) → IsTrue (is_truth (if truth then 1 else 0))
is_truth-truth true = refl
is_truth-truth false = refl

-- A truth value was read.
pub passes_truth : (value : ℕ) (truth : Bool) (old new : Rest) → HasTaken (big_endian 1 value) old new → value ≡ (if truth then 1 else 0)
    → Passes (IsTruth truth) truth_layout old new
passes_truth value truth old new taken is =
    let fits = fits_truth truth in
    let allowed : IsTrue (is_truth value) = subst (λ n. IsTrue (is_truth n)) (sym is) (is_truth-truth truth) in
    record {
      taken = record { front = big_endian 1 value; is = record { fits = fits; spelled = ap (big_endian 1) is }; taken = taken };
      later = λ next fault has. (passes_number 1 value old new taken (subst (λ n. n < 256 ^ 1) (sym is) fits) is_truth allowed).later (λ _. next) fault has;
    }

-- The bytes end within a number that may be any.
pub stops_any : (size : ℕ) (old new : Rest) (e : Short) → IsShort size old new e → Stops (λ next. number_then size any (λ _. next)) old (Some (short e.0))
stops_any size old new e is = λ next. stops_short size any old new e is (λ _. next)

-- One part after the other.
pub passes_both : (First Second : List ℕ → Type 0) (front back : Layout → Layout) (old mid new : Rest) → Passes First front old mid → Passes Second back mid new
    → Passes (First followed_by Second) (λ next. front (back next)) old new
passes_both First Second front back old mid new first second = record {
  taken = IsTaken-both First Second old mid new first.taken second.taken;
  later = λ next fault has. first.later (back next) fault (second.later next fault has);
}

-- A part isn't read after one that is.
pub stops_second : (First : List ℕ → Type 0) (front back : Layout → Layout) (old mid : Rest) (told : Option Fault) → Passes First front old mid → Stops back mid told
    → Stops (λ next. front (back next)) old told
stops_second First front back old mid (Some fault) passes stops = λ next. passes.later (back next) fault (stops next)
stops_second First front back old mid None passes stops = tt

-- What stops a part stops the parts that begin with it.
pub stops_first : (front back : Layout → Layout) (old : Rest) (told : Option Fault) → Stops front old told → Stops (λ next. front (back next)) old told
stops_first front back old (Some fault) stops = λ next. stops (back next)
stops_first front back old None stops = tt

-- What stops a number stops the parts that begin with it.
pub stops_at_number : (size : ℕ) (allows : ℕ → Bool) (layouts : ℕ → Layout → Layout) (old : Rest) (told : Option Fault) → StopsNumber size allows old told
    → Stops (λ next. number_then size allows (λ number. layouts number next)) old told
stops_at_number size allows layouts old (Some fault) stops = λ next. stops (λ number. layouts number next)
stops_at_number size allows layouts old None stops = tt

module _ (First : List ℕ → Type 0) (size : ℕ) (allows : ℕ → Bool) (value : ℕ) (layouts : ℕ → Layout → Layout) (old mid : Rest)
    (number : PassesNumber First size allows value old mid) where
  -- A number, and then what the number decides.
  pub passes_after_number : (Second : List ℕ → Type 0) (new : Rest) → Passes Second (layouts value) mid new
      → Passes (First followed_by Second) (λ next. number_then size allows (λ n. layouts n next)) old new
  passes_after_number Second new second = record {
    taken = IsTaken-both First Second old mid new number.taken second.taken;
    later = λ next fault has. number.later (λ n. layouts n next) fault (second.later next fault has);
  }

  -- What the number decides isn't read.
  pub stops_after_number : (told : Option Fault) → Stops (layouts value) mid told → Stops (λ next. number_then size allows (λ n. layouts n next)) old told
  stops_after_number (Some fault) stops = λ next. number.later (λ n. layouts n next) fault (stops next)
  stops_after_number None stops = tt

-- One part was written after the other.
pub appended_both : (old mid new front back bytes : List ℕ) → bytes ≡ front ++ back → mid ≡ old ++ front → new ≡ mid ++ back → new ≡ old ++ bytes
appended_both old mid new front back bytes whole first second =
    second ∙ ap (λ done. done ++ back) first ∙ append_assoc old front back ∙ ap (λ all. old ++ all) (sym whole)

-- A number after which the layout goes on at once.
pub passes_alone : (Is : List ℕ → Type 0) (size : ℕ) (allows : ℕ → Bool) (value : ℕ) (layouts : ℕ → Layout → Layout) (old new : Rest) → PassesNumber Is size allows value old new
    → ((next : Layout) → layouts value next ≡ next) → Passes Is (λ next. number_then size allows (λ number. layouts number next)) old new
passes_alone Is size allows value layouts old new number same = record {
  taken = number.taken;
  later = λ next fault has.
      number.later (λ n. layouts n next) fault (subst (λ layout. HasFault layout new.place new.left fault) (sym (same next)) has);
}

-- What follows from two clauses on an `Ok`.
pub ok_from_both : {X E : Type 0} (r : Result X E) (P Q R : X → Type 0) → ((x : X) → P x → Q x → R x) → IfOk r P → IfOk r Q → IfOk r R
ok_from_both (Ok x) P Q R both p q = both x p q
ok_from_both (Err e) P Q R both p q = tt
