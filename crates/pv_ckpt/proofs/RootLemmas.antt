-- Which root is in force by what a log begins with, and where it shows that none is.
use Rattle.std.proofs.Common.{◌≡◌, ◌≢◌, inl, inr, ℕ, ◌^◌, ◌<◌, ◌≤◌, List, [], ◌++◌, length, take, slice_index, refl, sym, ◌∙◌, ap, arith, length-append}
use Rattle.std.proofs.lemmas.Bool.{cases_eq, cases_lt}
use Rattle.std.proofs.lemmas.List.{append-nil, nil_from_length}
use Rattle.pv_base.specs.BigEndian.{big_endian, number_of}
use Rattle.pv_base.proofs.BigEndianLemmas.{length-big_endian, number_of-big_endian}
use Rattle.pv_law_checkpoints.specs.Roots.{start, gate_at, number_at, IsInForce}
use Rattle.pv_ckpt.specs.Roots.{IsRootless, begins_otherwise, ends_early, none_open}

-- Eight bytes that begin with a number are that number.
pub whole_eight : (bytes left : List ℕ) (number : ℕ) → bytes ≡ big_endian 8 number ++ left → length bytes ≡ 8 → number < 2 ^ 64 → number ≡ number_of bytes
whole_eight bytes left number is eight fits =
    let size : length (big_endian 8 number) ≡ 8 = length-big_endian 8 number in
    let none : left ≡ [] = nil_from_length left (omega (arith, ap length is, length-append (big_endian 8 number) left, size, eight)) in
    sym (number_of-big_endian 8 number fits) ∙ ap number_of (sym (is ∙ ap (λ (l : List ℕ). big_endian 8 number ++ l) none ∙ append-nil (big_endian 8 number)))

pub only_second : (front : List ℕ) → gate_at front 8 ≢ 1 → gate_at front 33 ≡ 1 → IsInForce front 33
only_second front shut opened = record { root = inr refl; opened = opened; greater = λ also. absurd (shut also) }

pub only_first : (front : List ℕ) → gate_at front 8 ≡ 1 → gate_at front 33 ≢ 1 → IsInForce front 8
only_first front opened shut = record { root = inl refl; opened = opened; greater = λ also. absurd (shut also) }

pub second_greater : (front : List ℕ) → gate_at front 33 ≡ 1 → number_at front 8 < number_at front 33 → IsInForce front 33
second_greater front opened less = record { root = inr refl; opened = opened; greater = λ also. inl less }

pub first_not_less : (front : List ℕ) → gate_at front 8 ≡ 1 → number_at front 33 ≤ number_at front 8 → IsInForce front 8
first_not_less front opened not_less = record {
  root = inl refl;
  opened = opened;
  greater = λ also. elim (cases_eq (number_at front 33) (number_at front 8)) [
    | inl same ↦ inr (same, refl)
    | inr differ ↦ inl (omega (arith, not_less, differ))
  ];
}

pub ruleset choosing = (only_second, only_first, second_greater, first_not_less)

-- They begin otherwise.
pub other_start : (front : List ℕ) (place : ℕ) → place < 8 → place ≤ length front → take place front ≡ take place start
    → (place < length front → slice_index front place ≢ slice_index start place) → IsRootless front place
other_start front place within reached same differ = begins_otherwise (record {
  within = within;
  before = same;
  reached = reached;
  wrong = elim (cases_lt place (length front)) [
    | inl inside ↦ inr (differ inside)
    | inr ends ↦ inl (omega (arith, ends, reached))
  ];
})

-- They end before both roots.
pub early_end : (front : List ℕ) → take 8 front ≡ take 8 start → length front < 59 → IsRootless front (length front)
early_end front same few = ends_early (record { begins = same; few = few; place_is = refl })

-- Neither root is open.
pub shut_roots : (front : List ℕ) → take 8 front ≡ take 8 start → 59 ≤ length front → gate_at front 8 ≢ 1 → gate_at front 33 ≢ 1 → IsRootless front 8
shut_roots front same long first second = none_open (record { starts = record { begins = same; long = long }; first = first; second = second; place_is = refl })
