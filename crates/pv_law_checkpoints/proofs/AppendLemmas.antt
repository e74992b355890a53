-- What each write of an append makes of a log in two areas, and what a crash in it leaves.
use Rattle.std.proofs.Common.{◌≡◌, ◌≢◌, inl, inr, ℕ, ◌+◌, ◌-◌, ◌^◌, ◌<◌, ◌≤◌, List, [], ◌∷◌, ◌++◌, length, drop, get_or, arith, refl, sym, ◌∙◌, ap, subst, append_assoc}
use Rattle.std.proofs.lemmas.Bool.{cases_eq}
use Rattle.std.proofs.lemmas.List.{append-nil, drop_more}
use Rattle.std.proofs.lemmas.List.Concat.{flat_map-append}
use Rattle.std.proofs.lemmas.List.Elements.{All-nil, All-cons, All-append}
use Rattle.pv_disk_model.specs.Disk.{overlaid, Torn}
use Rattle.pv_disk_model.specs.Size.{Contents}
use Rattle.pv_disk_model.proofs.OverlayLemmas.{Torn-overlaid, get_or-overlaid_in}
use Rattle.pv_format.specs.Journal.{framed, record_of, records_of, AreShort}
use Rattle.pv_law_checkpoints.specs.Appending.{frame_of, IsStaged, AreSameRoots, IsWithOrWithout}
use Rattle.pv_law_checkpoints.specs.Roots.{other_root, place_at, IsRoot, IsSameRoot}
use Rattle.pv_law_checkpoints.specs.TwoAreas.{end_at, IsLog}
use Rattle.pv_law_checkpoints.proofs.LogLemmas.{extent, end_within, log_from, log_kept}
use Rattle.pv_law_checkpoints.proofs.RootLemmas.{in_force_kept, root_kept, starts_kept, other_is_root, IsRoot-le}
use Rattle.pv_law_checkpoints.proofs.Slices.{behind_kept, slice_kept, drop-overlaid}

module _ (at : ℕ) (packed later : Contents) (bytes : List ℕ) (log : IsLog at packed later bytes) where
  -- A write at the closed gate or behind it leaves the roots.
  module _ (place count : ℕ) (from : end_at bytes at later ≤ place) (left : List ℕ) (torn : Torn place count bytes left) where
    root_same : (root : ℕ) → IsRoot root → IsSameRoot bytes left root
    root_same root is = root_kept place count bytes left torn root (inr (omega (arith, (IsRoot-le root is).1, log.block.behind_roots, from)))

    pub roots_same : AreSameRoots bytes left at
    roots_same = record { own = root_same at log.in_force.root; other = root_same (other_root at) (other_is_root at log.in_force.root) }

  -- A crash in a write behind the closed gate.
  pub behind_gate_kept : (count : ℕ) (left : List ℕ) → Torn (end_at bytes at later + 1) count bytes left → IsLog at packed later left × AreSameRoots bytes left at
  behind_gate_kept count left torn =
      let place = end_at bytes at later + 1 in
      let roots = roots_same place count (omega arith) left torn in (
        (log_kept at packed later bytes log place count left torn (omega (arith, log.block.behind_roots))
            (inr (omega (arith, (IsRoot-le at log.in_force.root).1, log.block.behind_roots))) (inr (omega arith)) (λ opened. (sym roots.other.gate ∙ opened, roots.other.number))).0,
        roots,
      )

  pub end_same : (left : List ℕ) → AreSameRoots bytes left at → end_at left at later ≡ end_at bytes at later
  end_same left roots = omega (arith, roots.own.place, roots.own.size)

  -- What the write of the frame makes.
  pub frame_staged : (content made : List ℕ) → length content < 2 ^ 32 → made ≡ overlaid bytes (end_at bytes at later + 1) (frame_of content)
      → IsStaged at packed later content made × AreSameRoots bytes made at
  frame_staged content made short is =
      let place = end_at bytes at later + 1 in
      let within : place ≤ length bytes = omega (arith, end_within at packed later bytes log) in
      let torn : Torn place (length (frame_of content)) bytes made = subst (Torn place (length (frame_of content)) bytes) (sym is) (Torn-overlaid bytes place (frame_of content) within) in
      let kept = behind_gate_kept (length (frame_of content)) made torn in
      let tail = drop (place + length (frame_of content)) bytes in (
        record {
          log = kept.0;
          short = short;
          tail = tail;
          behind_gate =
              ap (λ n. drop (n + 1) made) (end_same made kept.1) ∙ ap (λ (l : List ℕ). drop place l) is ∙ drop-overlaid bytes place (frame_of content) within
              ∙ append_assoc (framed content) (0 ∷ []) tail;
        },
        kept.1,
      )

-- An open gate before a staged content makes one record more.
one_record_more : (later : Contents) (content tail : List ℕ) → records_of later ++ 1 ∷ (framed content ++ 0 ∷ tail) ≡ records_of (later ++ content ∷ []) ++ 0 ∷ tail
one_record_more later content tail =
    let all : records_of (later ++ content ∷ []) ≡ records_of later ++ record_of content =
    flat_map-append record_of later (content ∷ []) ∙ ap (λ (l : List ℕ). records_of later ++ l) (append-nil (record_of content)) in
    sym (ap (λ (l : List ℕ). l ++ 0 ∷ tail) all ∙ append_assoc (records_of later) (record_of content) (0 ∷ tail))

module _ (at : ℕ) (packed later : Contents) (content staged : List ℕ) (is : IsStaged at packed later content staged) where
  -- What the gate is after a write of it decides whether the content is there.
  module _ (left : List ℕ) (torn : Torn (end_at staged at later) 1 staged left) where
    roots_left : AreSameRoots staged left at
    roots_left = roots_same at packed later staged is.log (end_at staged at later) 1 (omega arith) left torn

    tail_left : drop (end_at staged at later) left ≡ get_or left (end_at staged at later) 0 ∷ (framed content ++ 0 ∷ is.tail)
    tail_left =
        let place = end_at staged at later in
        drop_more left place 0 (omega (arith, end_within at packed later staged is.log, torn.no_shorter))
        ∙ ap (λ (l : List ℕ). get_or left place 0 ∷ l) (behind_kept place 1 staged left torn (place + 1) (omega arith) ∙ is.behind_gate)

    log_left : (contents : Contents) (gate : ℕ) (rest : List ℕ) → AreShort contents → gate ≢ 1
        → records_of later ++ get_or left (end_at staged at later) 0 ∷ (framed content ++ 0 ∷ is.tail) ≡ records_of contents ++ gate ∷ rest → IsLog at packed contents left
    log_left contents gate rest short closed parts =
        let place = end_at staged at later in
        log_from at packed later staged is.log left (starts_kept place 1 staged left torn (omega (arith, is.log.block.behind_roots)) is.log.starts)
        (in_force_kept staged left at is.log.in_force roots_left.own (λ opened. (sym roots_left.other.gate ∙ opened, roots_left.other.number))) roots_left.own
        (slice_kept place 1 staged left torn (place_at staged at) (extent at packed later staged is.log) (inr (omega arith)))
        contents gate (get_or left place 0 ∷ (framed content ++ 0 ∷ is.tail)) rest short closed tail_left (omega arith) parts

    pub opened_log : get_or left (end_at staged at later) 0 ≡ 1 → IsLog at packed (later ++ content ∷ []) left
    opened_log opened =
        log_left (later ++ content ∷ []) 0 is.tail
        (All-append (λ c. length c < 2 ^ 32) later (content ∷ []) is.log.short (All-cons (λ c. length c < 2 ^ 32) content [] is.short (All-nil (λ c. length c < 2 ^ 32))))
        (λ zero_is_one. absurd (omega (arith, zero_is_one)))
        (ap (λ g. records_of later ++ g ∷ (framed content ++ 0 ∷ is.tail)) opened ∙ one_record_more later content is.tail)

    pub closed_log : get_or left (end_at staged at later) 0 ≢ 1 → IsLog at packed later left × AreSameRoots staged left at
    closed_log closed = (log_left later (get_or left (end_at staged at later) 0) (framed content ++ 0 ∷ is.tail) is.log.short closed refl, roots_left)

    pub gate_decides : IsWithOrWithout at packed later content left × AreSameRoots staged left at
    gate_decides = elim (cases_eq (get_or left (end_at staged at later) 0) 1) [
      | inl opened ↦ (inr (opened_log opened), roots_left)
      | inr closed ↦ let kept = closed_log closed in (inl kept.0, kept.1)
    ]

  -- What the write of the gate makes.
  pub gate_opened : (made : List ℕ) → made ≡ overlaid staged (end_at staged at later) (1 ∷ []) → IsLog at packed (later ++ content ∷ []) made × AreSameRoots staged made at
  gate_opened made is_made =
      let place = end_at staged at later in
      let within : place ≤ length staged = omega (arith, end_within at packed later staged is.log) in
      let torn : Torn place 1 staged made = subst (Torn place 1 staged) (sym is_made) (Torn-overlaid staged place (1 ∷ []) within) in
      let none : place - place ≡ 0 = omega arith in
      let gate : get_or made place 0 ≡ 1 =
      ap (λ (l : List ℕ). get_or l place 0) is_made ∙ get_or-overlaid_in staged place (1 ∷ []) within place (omega arith) (omega arith) ∙ ap (λ n. get_or (1 ∷ []) n 0) none in
      (opened_log made torn gate, roots_left made torn)
