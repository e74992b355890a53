-- The bytes of a formatted log and of a worked example, computed.
use Rattle.std.proofs.Common.{◌≡◌, inl, inr, ◌^◌, ◌<◌, true, false, [], ◌∷◌, ◌++◌, length, arith, refl}
use Rattle.std.proofs.lemmas.List.Elements.{All-nil, All-cons}
use Rattle.pv_base.specs.BigEndian.{big_endian, number_of}
use Rattle.pv_format.specs.Journal.{AreShort}
use Rattle.pv_law_checkpoints.specs.Roots.{place_at}
use Rattle.pv_format.specs.Checkpoint.{parts_of}
use Rattle.pv_law_checkpoints.specs.Stages.{standing_at, made_by_all, free_place}
use Rattle.pv_law_checkpoints.specs.TwoAreas.{block_of, end_at, IsLog, formatted}
use Rattle.pv_law_checkpoints.specs.Worked.{begun, prepared, committed, three, appended, packed_once, packed_twice}

pub formatted_is : IsLog 8 [] [] formatted × (standing_at formatted 8 ≡ record { number = 1; other_open = false }) × (length formatted ≡ 59)
unfolding formatted big_endian number_of
formatted_is = (
  record {
    starts = record { begins = refl; long = omega arith };
    in_force = record { root = inl refl; opened = refl; greater = λ opened. absurd (omega (arith, opened)) };
    block = record { behind_roots = omega arith; in_range = omega arith; ends = omega arith; short = All-nil (λ c. length c < 2 ^ 32); is = refl };
    short = All-nil (λ c. length c < 2 ^ 32);
    gate = 0;
    rest = [];
    closed = λ zero_is_one. absurd (omega (arith, zero_is_one));
    is = refl;
  },
  refl,
  refl,
)

short_three : AreShort three
short_three =
    All-cons (λ c. length c < 2 ^ 32) begun (prepared ∷ committed ∷ []) (omega arith)
    (All-cons (λ c. length c < 2 ^ 32) prepared (committed ∷ []) (omega arith) (All-cons (λ c. length c < 2 ^ 32) committed [] (omega arith) (All-nil (λ c. length c < 2 ^ 32))))

pub appended_is : IsLog 8 [] three appended × (length appended ≡ 116)
unfolding big_endian number_of
appended_is = (
  record {
    starts = record { begins = refl; long = omega arith };
    in_force = record { root = inl refl; opened = refl; greater = λ opened. absurd (omega (arith, opened)) };
    block = record { behind_roots = omega arith; in_range = omega arith; ends = omega arith; short = All-nil (λ c. length c < 2 ^ 32); is = refl };
    short = short_three;
    gate = 0;
    rest = [];
    closed = λ zero_is_one. absurd (omega (arith, zero_is_one));
    is = refl;
  },
  refl,
)

pub packed_once_is : IsLog 33 three [] packed_once × (length packed_once ≡ 171) × (standing_at packed_once 33 ≡ record { number = 2; other_open = true })
unfolding big_endian number_of
packed_once_is = (
  record {
    starts = record { begins = refl; long = omega arith };
    in_force = record { root = inr refl; opened = refl; greater = λ opened. inl (omega arith) };
    block = record { behind_roots = omega arith; in_range = omega arith; ends = omega arith; short = short_three; is = refl };
    short = All-nil (λ c. length c < 2 ^ 32);
    gate = 0;
    rest = [];
    closed = λ zero_is_one. absurd (omega (arith, zero_is_one));
    is = refl;
  },
  refl,
  refl,
)

pub packed_twice_is : IsLog 8 three [] packed_twice × (length packed_twice ≡ 171) × (standing_at packed_twice 8 ≡ record { number = 3; other_open = true })
unfolding big_endian number_of
packed_twice_is = (
  record {
    starts = record { begins = refl; long = omega arith };
    in_force = record { root = inl refl; opened = refl; greater = λ opened. inl (omega arith) };
    block = record { behind_roots = omega arith; in_range = omega arith; ends = omega arith; short = short_three; is = refl };
    short = All-nil (λ c. length c < 2 ^ 32);
    gate = 0;
    rest = 0 ∷ 1 ∷ 0 ∷ (block_of three ++ 0 ∷ []);
    closed = λ zero_is_one. absurd (omega (arith, zero_is_one));
    is = refl;
  },
  refl,
  refl,
)

-- Where each checkpoint puts its block.
pub places : (free_place (length (block_of three)) (place_at appended 8) (end_at appended 8 three) ≡ 116)
    × (free_place (length (block_of three)) (place_at packed_once 33) (end_at packed_once 33 []) ≡ 58)
unfolding big_endian number_of
places = (refl, refl)

pub first_checkpoint : made_by_all (parts_of false) 8 116 three appended ≡ packed_once
unfolding big_endian number_of
first_checkpoint = refl

pub second_checkpoint : made_by_all (parts_of true) 33 58 three packed_once ≡ packed_twice
unfolding big_endian number_of
second_checkpoint = refl
