-- Which root is in force, and what a write elsewhere leaves of a root.
use Rattle.std.proofs.Common.{◌≡◌, ◌≢◌, ◌⊎◌, inl, inr, ⊎_elim, ℕ, ◌+◌, ◌<◌, ◌≤◌, List, take, drop, arith, refl, sym, ◌∙◌, ap, subst}
use Rattle.std.proofs.lemmas.Bool.{cases_eq, cases_lt}
use Rattle.pv_base.specs.BigEndian.{number_of}
use Rattle.pv_disk_model.specs.Disk.{Torn}
use Rattle.pv_disk_model.proofs.OverlayLemmas.{get_or-Torn_below, get_or-Torn_above}
use Rattle.pv_law_checkpoints.specs.Roots.{other_root, gate_at, number_at, place_at, size_at, IsRoot, IsInForce, IsSameRoot}
use Rattle.pv_law_checkpoints.specs.TwoAreas.{Starts}
use Rattle.pv_law_checkpoints.proofs.Slices.{fronts_agree, Apart, slice_kept}

pub other_is : (at : ℕ) → IsRoot at → ((at ≡ 8) × (other_root at ≡ 33)) ⊎ ((at ≡ 33) × (other_root at ≡ 8))
other_is at (inl first) = inl (first, omega arith)
other_is at (inr second) = inr (second, omega arith)

pub other_is_root : (at : ℕ) → IsRoot at → IsRoot (other_root at)
other_is_root at (inl first) = inr (omega arith)
other_is_root at (inr second) = inl (omega arith)

pub other_twice : (at : ℕ) → IsRoot at → other_root (other_root at) ≡ at
other_twice at (inl first) = omega arith
other_twice at (inr second) = omega arith

pub IsRoot-le : (at : ℕ) → IsRoot at → (8 ≤ at) × (at ≤ 33)
IsRoot-le at (inl first) = (omega arith, omega arith)
IsRoot-le at (inr second) = (omega arith, omega arith)

not_both_in_force : (bytes : List ℕ) → IsInForce bytes 8 → IsInForce bytes 33 → ⊥
not_both_in_force bytes one two = elim (one.greater two.opened) [
  | inl less ↦ elim (two.greater one.opened) [
    | inl greater ↦ omega (arith, less, greater)
    | inr same ↦ omega (arith, same.1)
  ]
  | inr same ↦ elim (two.greater one.opened) [
    | inl greater ↦ omega (arith, same.0, greater)
    | inr first ↦ omega (arith, first.1)
  ]
]

-- One root is in force.
pub one_in_force : (bytes : List ℕ) (at other : ℕ) → IsInForce bytes at → IsInForce bytes other → at ≡ other
one_in_force bytes at other one two = elim one.root [
  | inl first ↦ elim two.root [
    | inl also ↦ first ∙ sym also
    | inr second ↦ absurd (not_both_in_force bytes (subst (IsInForce bytes) first one) (subst (IsInForce bytes) second two))
  ]
  | inr second ↦ elim two.root [
    | inl first ↦ absurd (not_both_in_force bytes (subst (IsInForce bytes) first two) (subst (IsInForce bytes) second one))
    | inr also ↦ second ∙ sym also
  ]
]

-- A root is in force, or neither is open.
pub in_force_or_none : (bytes : List ℕ) → ((at : ℕ) × IsInForce bytes at) ⊎ ((gate_at bytes 8 ≢ 1) × (gate_at bytes 33 ≢ 1))
in_force_or_none bytes = elim (cases_eq (gate_at bytes 8) 1) [
  | inr first_shut ↦ elim (cases_eq (gate_at bytes 33) 1) [
    | inr second_shut ↦ inr (first_shut, second_shut)
    | inl second_open ↦ inl (33, record { root = inr refl; opened = second_open; greater = λ first_open. absurd (first_shut first_open) })
  ]
  | inl first_open ↦ elim (cases_eq (gate_at bytes 33) 1) [
    | inr second_shut ↦ inl (8, record { root = inl refl; opened = first_open; greater = λ second_open. absurd (second_shut second_open) })
    | inl second_open ↦ elim (cases_lt (number_at bytes 8) (number_at bytes 33)) [
      | inl less ↦ inl (33, record { root = inr refl; opened = second_open; greater = λ also. inl less })
      | inr not_less ↦ inl (
        8,
        record {
          root = inl refl;
          opened = first_open;
          greater = λ also. elim (cases_eq (number_at bytes 33) (number_at bytes 8)) [
            | inl same ↦ inr (same, refl)
            | inr differ ↦ inl (omega (arith, not_less, differ))
          ];
        },
      )
    ]
  ]
]

-- What is in force stays so where it reads the same, and the other root isn't opened or numbered anew.
pub in_force_kept : (old new : List ℕ) (at : ℕ) → IsInForce old at → IsSameRoot old new at
    → (gate_at new (other_root at) ≡ 1 → (gate_at old (other_root at) ≡ 1) × (number_at new (other_root at) ≡ number_at old (other_root at))) → IsInForce new at
in_force_kept old new at is same other = record {
  root = is.root;
  opened = same.gate ∙ is.opened;
  greater = λ opened.
      let was = other opened in
      ⊎_elim (λ less. inl (omega (arith, less, was.1, same.number))) (λ equal. inr (was.1 ∙ equal.0 ∙ sym same.number, equal.1)) (is.greater was.0);
}

module _ (place count : ℕ) (old new : List ℕ) (torn : Torn place count old new) where
  gate_kept : (at : ℕ) → Apart place count at 1 → gate_at new at ≡ gate_at old at
  gate_kept at (inl behind) = get_or-Torn_above place count old new torn at behind
  gate_kept at (inr before) = get_or-Torn_below place count old new torn at (omega arith)

  number_kept : (at : ℕ) → Apart place count at 8 → number_of (take 8 (drop at new)) ≡ number_of (take 8 (drop at old))
  number_kept at apart = ap number_of (slice_kept place count old new torn at 8 apart)

  -- A part of what is apart from a write.
  pub inner_apart : (at size inner less : ℕ) → Apart place count at size → at ≤ inner → inner + less ≤ at + size → Apart place count inner less
  inner_apart at size inner less (inl behind) from to = inl (omega arith)
  inner_apart at size inner less (inr before) from to = inr (omega arith)

  -- A root stays as it is where the write is apart from it.
  pub root_kept : (at : ℕ) → Apart place count at 25 → IsSameRoot old new at
  root_kept at apart = record {
    gate = gate_kept at (inner_apart at 25 at 1 apart (omega arith) (omega arith));
    number = number_kept (at + 1) (inner_apart at 25 (at + 1) 8 apart (omega arith) (omega arith));
    place = number_kept (at + 9) (inner_apart at 25 (at + 9) 8 apart (omega arith) (omega arith));
    size = number_kept (at + 17) (inner_apart at 25 (at + 17) 8 apart (omega arith) (omega arith));
  }

  -- A write in its gate alone leaves the fields of a root.
  pub number_behind_gate : (at : ℕ) → place + count ≤ at + 1 → number_at new at ≡ number_at old at
  number_behind_gate at behind = number_kept (at + 1) (inl behind)

  pub place_behind_gate : (at : ℕ) → place + count ≤ at + 1 → place_at new at ≡ place_at old at
  place_behind_gate at behind = number_kept (at + 9) (inl (omega arith))

  pub size_behind_gate : (at : ℕ) → place + count ≤ at + 1 → size_at new at ≡ size_at old at
  size_behind_gate at behind = number_kept (at + 17) (inl (omega arith))

  -- A write behind its gate leaves the gate.
  pub gate_before : (at : ℕ) → at < place → gate_at new at ≡ gate_at old at
  gate_before at before = gate_kept at (inr (omega arith))

  pub starts_kept : 8 ≤ place → Starts old → Starts new
  starts_kept behind starts = record {
    begins = fronts_agree place 8 new old torn.before behind ∙ starts.begins;
    long = omega (arith, torn.no_shorter, starts.long);
  }
