-- What a write that is apart from the area in force leaves of a log in two areas.
use Rattle.std.proofs.Common.{◌≡◌, ◌≢◌, inl, inr, ℕ, ◌+◌, ◌<◌, ◌≤◌, List, ◌∷◌, ◌++◌, length, take, drop, get_or, arith, refl, sym, ◌∙◌, ap}
use Rattle.std.proofs.lemmas.List.{take-append-drop, take_at, drop_at, drop-drop, drop_more, length-drop}
use Rattle.pv_disk_model.specs.Disk.{Torn}
use Rattle.pv_disk_model.specs.Size.{Contents}
use Rattle.pv_disk_model.proofs.OverlayLemmas.{get_or-Torn_below}
use Rattle.pv_format.specs.Journal.{records_of, AreShort}
use Rattle.pv_law_checkpoints.specs.Roots.{other_root, gate_at, number_at, place_at, size_at, IsInForce, IsSameRoot}
use Rattle.pv_law_checkpoints.specs.TwoAreas.{behind_block, end_at, Starts, HasBlock, IsLog}
use Rattle.pv_law_checkpoints.proofs.RootLemmas.{in_force_kept, root_kept, starts_kept, inner_apart}
use Rattle.pv_law_checkpoints.proofs.Slices.{Apart, fronts_agree, slices_agree, slice_kept, behind_kept}

module _ (at : ℕ) (packed later : Contents) (old : List ℕ) (log : IsLog at packed later old) where
  -- The length of the block and the records behind it.
  abbrev pub extent : ℕ
  extent = size_at old at + length (records_of later)

  end_is_extent : place_at old at + extent ≡ end_at old at later
  end_is_extent = omega arith

  -- What the bytes hold from the closed gate on.
  pub at_end : drop (end_at old at later) old ≡ log.gate ∷ log.rest
  at_end =
      let start = place_at old at + size_at old at in
      let count = length (records_of later) in
      sym (drop-drop count start old) ∙ ap (λ (l : List ℕ). drop count l) log.is ∙ drop_at (records_of later) (log.gate ∷ log.rest) count refl

  pub end_within : end_at old at later < length old
  end_within = omega (arith, ap length at_end, length-drop (end_at old at later) old)

  -- With the same start, the same roots and the same area before the closed gate, the bytes are a log of these records where they end so.
  module _ (new : List ℕ) (starts : Starts new) (in_force : IsInForce new at) (same : IsSameRoot old new at)
      (area : take extent (drop (place_at old at) new) ≡ take extent (drop (place_at old at) old)) where
    pub block_kept : (tail : List ℕ) → drop (end_at old at later) new ≡ tail → 0 < length tail → HasBlock new at packed
    block_kept tail is some = record {
      behind_roots = omega (arith, same.place, log.block.behind_roots);
      in_range = omega (arith, same.place, log.block.in_range);
      ends = omega (arith, same.place, same.size, ap length is, some, length-drop (end_at old at later) new);
      short = log.block.short;
      is =
          (λ i. take (same.size i) (drop (same.place i) new))
          ∙ fronts_agree extent (size_at old at) (drop (place_at old at) new) (drop (place_at old at) old) area (omega arith) ∙ log.block.is;
    }

    pub records_kept : (tail : List ℕ) → drop (end_at old at later) new ≡ tail → behind_block new at ≡ records_of later ++ tail
    records_kept tail is =
        let place = place_at old at in
        let size = size_at old at in
        let count = length (records_of later) in
        let behind = drop (place + size) new in
        let before : take count behind ≡ take count (drop (place + size) old) =
        ap (λ (l : List ℕ). take count l) (sym (drop-drop size place new))
        ∙ slices_agree extent size count (drop place new) (drop place old) area (omega arith)
        ∙ ap (λ (l : List ℕ). take count l) (drop-drop size place old) in
        let front : take count behind ≡ records_of later =
        before ∙ ap (λ (l : List ℕ). take count l) log.is ∙ take_at (records_of later) (log.gate ∷ log.rest) count refl in
        let back : drop count behind ≡ tail = drop-drop count (place + size) new ∙ is in
        (λ i. drop (same.place i + same.size i) new) ∙ sym (take-append-drop count behind) ∙ (λ i. front i ++ back i)

    pub log_from : (contents : Contents) (gate : ℕ) (tail rest : List ℕ) → AreShort contents → gate ≢ 1 → drop (end_at old at later) new ≡ tail → 0 < length tail
        → records_of later ++ tail ≡ records_of contents ++ gate ∷ rest → IsLog at packed contents new
    log_from contents gate tail rest short closed is some parts = record {
      starts = starts;
      in_force = in_force;
      block = block_kept tail is some;
      short = short;
      gate = gate;
      rest = rest;
      closed = closed;
      is = records_kept tail is ∙ parts;
    }

  -- A write that is apart from the root in force and from the area up to its closed gate.
  module _ (place count : ℕ) (new : List ℕ) (torn : Torn place count old new) (late : 8 ≤ place) (root : Apart place count at 25)
      (area : Apart place count (place_at old at) (extent + 1))
      (other : gate_at new (other_root at) ≡ 1 → (gate_at old (other_root at) ≡ 1) × (number_at new (other_root at) ≡ number_at old (other_root at))) where
    same_root : IsSameRoot old new at
    same_root = root_kept place count old new torn at root

    still_at_end : (rest : List ℕ) × (drop (end_at old at later) new ≡ log.gate ∷ rest)
    still_at_end = elim area [
      | inl behind ↦ (log.rest, behind_kept place count old new torn (end_at old at later) (omega (arith, behind)) ∙ at_end)
      | inr before ↦
          let end = end_at old at later in
          let gate_new : get_or new end 0 ≡ get_or old end 0 = get_or-Torn_below place count old new torn end (omega (arith, before)) in
          let both : get_or old end 0 ∷ drop (end + 1) old ≡ log.gate ∷ log.rest = sym (drop_more old end 0 end_within) ∙ at_end in
          let gate_old : get_or old end 0 ≡ log.gate = cc in (
            drop (end + 1) new,
            drop_more new end 0 (omega (arith, end_within, torn.no_shorter)) ∙ ap (λ g. g ∷ drop (end + 1) new) (gate_new ∙ gate_old),
          )
    ]

    -- The log is as it was.
    pub log_kept : IsLog at packed later new × IsSameRoot old new at
    log_kept = (
      log_from new (starts_kept place count old new torn late log.starts) (in_force_kept old new at log.in_force same_root other) same_root
          (slice_kept place count old new torn (place_at old at) extent (inner_apart place count old new torn (place_at old at) (extent + 1) (place_at old at) extent area (omega arith) (omega arith)))
          later log.gate (log.gate ∷ still_at_end.0) still_at_end.0 log.short log.closed still_at_end.1 (omega arith) refl,
      same_root,
    )
