-- What the bytes that a log begins with say of the whole of it.
use Rattle.std.proofs.Common.{◌≡◌, inl, inr, ℕ, ◌+◌, ◌<◌, ◌≤◌, ◌==◌, min, List, length, take, drop, slice_index, arith, sym, ◌∙◌, ap, length-take, get_or-take}
use Rattle.std.proofs.lemmas.Bool.{cases_lt}
use Rattle.std.proofs.lemmas.List.{take-take}
use Rattle.pv_base.specs.BigEndian.{number_of}
use Rattle.pv_law_checkpoints.specs.Roots.{gate_at, other_root, IsRoot, IsSameRoot}
use Rattle.pv_law_checkpoints.specs.TwoAreas.{Starts, HasOtherStart, HasNoOpenRoot, IsNotOurs}
use Rattle.pv_law_checkpoints.proofs.RootLemmas.{in_force_kept, other_is_root, IsRoot-le}
use Rattle.pv_law_checkpoints.proofs.Slices.{fronts_agree, slices_agree, places_agree}
use Rattle.pv_ckpt.specs.Roots.{IsRootOf, IsRootless, begins_otherwise, ends_early, none_open}
use Rattle.pv_ckpt.specs.declared.roots.Root.{Root}

-- Bytes that begin alike, up to both roots.
module _ (front bytes : List ℕ) (same : take 58 front ≡ take 58 bytes) where
  number_same : (at : ℕ) → at + 8 ≤ 58 → number_of (take 8 (drop at bytes)) ≡ number_of (take 8 (drop at front))
  number_same at le = ap number_of (slices_agree 58 at 8 bytes front (sym same) le)

  gate_same : (at : ℕ) → at < 58 → gate_at bytes at ≡ gate_at front at
  gate_same at low = places_agree 58 at bytes front (sym same) low

  pub root_same : (at : ℕ) → IsRoot at → IsSameRoot front bytes at
  root_same at is =
      let le = IsRoot-le at is in
      record {
        gate = gate_same at (omega (arith, le.1));
        number = number_same (at + 1) (omega (arith, le.1));
        place = number_same (at + 9) (omega (arith, le.1));
        size = number_same (at + 17) (omega (arith, le.1));
      }

  starts_same : 59 ≤ length bytes → Starts front → Starts bytes
  starts_same long starts = record { begins = sym (fronts_agree 58 8 front bytes same (omega arith)) ∙ starts.begins; long = long }

  -- The root in force is the same.
  pub root_moved : (root : Root) → 59 ≤ length bytes → IsRootOf front root → IsRootOf bytes root
  root_moved root long is =
      let own = root_same root.at is.in_force.root in
      let other = root_same (other_root root.at) (other_is_root root.at is.in_force.root) in
      record {
        starts = starts_same long is.starts;
        in_force = in_force_kept front bytes root.at is.in_force own (λ opened. (sym other.gate ∙ opened, other.number));
        number = is.number ∙ sym own.number;
        place = is.place ∙ sym own.place;
        size = is.size ∙ sym own.size;
        other = is.other ∙ ap (λ g. g == 1) (sym other.gate);
      }

  pub shut_moved : (place : ℕ) → 59 ≤ length bytes → HasNoOpenRoot front place → HasNoOpenRoot bytes place
  shut_moved place long none = record {
    starts = starts_same long none.starts;
    first = λ opened. none.first (sym (gate_same 8 (omega arith)) ∙ opened);
    second = λ opened. none.second (sym (gate_same 33 (omega arith)) ∙ opened);
    place_is = none.place_is;
  }

-- The first 59 bytes, or all where there are fewer.
module _ (front bytes : List ℕ) (size : ℕ) (size_is : size ≡ length bytes) (is : front ≡ take (min size 59) bytes) where
  whole : length front ≡ min size 59
  whole = omega (arith, ap length is, length-take (min size 59) bytes, size_is)

  pub front_same : (count : ℕ) → count ≤ length front → take count front ≡ take count bytes
  front_same count le = ap (λ (l : List ℕ). take count l) is ∙ take-take count (min size 59) bytes (omega (arith, whole))

  byte_same : (place : ℕ) → place < length front → slice_index front place ≡ slice_index bytes place
  byte_same place inside = ap (λ (l : List ℕ). slice_index l place) is ∙ get_or-take (min size 59) bytes place 0 (omega (arith, whole))

  other_start_moved : (place : ℕ) → HasOtherStart front place → HasOtherStart bytes place
  other_start_moved place other = record {
    within = other.within;
    before = sym (front_same place other.reached) ∙ other.before;
    reached = omega (arith, other.reached, whole, size_is);
    wrong = elim (cases_lt place (length front)) [
      | inr ends ↦ inl (omega (arith, ends, other.within, other.reached, whole, size_is))
      | inl inside ↦ elim other.wrong [
        | inl missing ↦ absurd (omega (arith, missing, inside))
        | inr differs ↦ inr (λ equal. differs (byte_same place inside ∙ equal))
      ]
    ];
  }

  -- Where it shows in them that there is no root in force, it shows in all.
  pub rootless_moved : (place : ℕ) → IsRootless front place → IsNotOurs bytes place
  rootless_moved place (begins_otherwise other) = inl (other_start_moved place other)
  rootless_moved place (ends_early none) = inr (inl (record {
    begins = sym (front_same 8 (omega (arith, ap length none.begins, length-take 8 front))) ∙ none.begins;
    few = omega (arith, none.few, whole, size_is);
    place_is = omega (arith, none.place_is, none.few, whole, size_is);
  }))
  rootless_moved place (none_open none) =
      inr (inr (inl (shut_moved front bytes (front_same 58 (omega (arith, none.starts.long))) place (omega (arith, none.starts.long, whole, size_is)) none)))

-- Bytes of which no more was read.
pub rootless_read : (front : List ℕ) (place : ℕ) → IsRootless front place → IsNotOurs front place
rootless_read front place (begins_otherwise other) = inl other
rootless_read front place (ends_early none) = inr (inl none)
rootless_read front place (none_open none) = inr (inr (inl none))
