-- What each part of a checkpoint makes of a log in two areas, and what a crash in it leaves.
use Rattle.std.proofs.Common.{◌≡◌, ◌≢◌, ◌⊎◌, inl, inr, ⊎_elim, ℕ, ◌+◌, ◌-◌, ◌^◌, ◌<◌, ◌≤◌, ◌==◌, true, false, if◌then◌else◌, List, [], ◌∷◌, ◌++◌, length, take, drop, get_or, arith, refl, sym, ◌∙◌, ap, subst, append_assoc}
use Rattle.std.proofs.lemmas.Bool.{cases_lt, lt-ltb, le-ltb}
use Rattle.std.proofs.lemmas.Bool.Decides.{eqb_tells}
use Rattle.std.proofs.lemmas.List.{take_at, drop_at, drop-drop, append-nil, length-append, length-take, length-drop}
use Rattle.std.proofs.lemmas.List.Elements.{All-nil}
use Rattle.pv_base.specs.BigEndian.{big_endian, number_of}
use Rattle.pv_base.proofs.BigEndianLemmas.{length-big_endian, number_of-big_endian}
use Rattle.pv_base.specs.declared.mode.Mode.{Mode}
use Rattle.pv_base.specs.declared.mode.Mode.TheVariants as modes
use Rattle.pv_disk_model.specs.Disk.{overlaid, Torn}
use Rattle.pv_disk_model.specs.Size.{Contents}
use Rattle.pv_disk_model.proofs.OverlayLemmas.{Torn-overlaid, get_or-overlaid_in}
use Rattle.pv_format.specs.Journal.{records_of, AreShort}
use Rattle.pv_law_journal.proofs.SizeLemmas.{end_of-size}
use Rattle.pv_law_checkpoints.specs.Roots.{fields_of, other_root, gate_at, number_at, place_at, size_at, IsRoot, IsInForce, IsSameRoot}
use Rattle.pv_law_checkpoints.specs.TwoAreas.{block_of, end_at, greatest_place, HasBlock, IsLog}
use Rattle.pv_format.specs.Checkpoint.{Standing, done, shut, Part, storing, closing, naming, opening, MayLeave, MayLeaveInAll, left_by, parts_of}
use Rattle.pv_law_checkpoints.specs.Stages.{standing_at, IsBeforeOrGiven, IsUnderWay, Stands, free_place, writes_at, writes, Holds, IsNamed, IsMade, IsNext, IsLeft, LeadsOn, made_by, IsBlockPlace, IsPacked, made_by_all}
use Rattle.pv_law_checkpoints.proofs.Blocks.{block_size, records_size, short_within}
use Rattle.pv_law_checkpoints.proofs.LogLemmas.{extent, end_within, log_kept}
use Rattle.pv_law_checkpoints.proofs.RootLemmas.{root_kept, other_is, other_is_root, other_twice, IsRoot-le, gate_before, number_behind_gate, place_behind_gate, size_behind_gate, starts_kept}
use Rattle.pv_law_checkpoints.proofs.Slices.{Apart, behind_kept, drop-overlaid}

-- The place of a new block is 58, with room before the area in force, or right behind that area.
pub free_place_is : (size in_force end : ℕ)
    → ((free_place size in_force end ≡ 58) × (59 + size ≤ in_force)) ⊎ ((free_place size in_force end ≡ end + 1) × (in_force < 59 + size))
free_place_is size in_force end = elim (cases_lt in_force (59 + size)) [
  | inl less ↦ inr (ap (λ b. if b then end + 1 else 58) (lt-ltb in_force (59 + size) less), less)
  | inr enough ↦ inl (ap (λ b. if b then end + 1 else 58) (le-ltb in_force (59 + size) enough), enough)
]

-- A block is as long as its root says.
pub block_length : (bytes : List ℕ) (at : ℕ) (packed : Contents) → HasBlock bytes at packed → size_at bytes at ≡ length (block_of packed)
block_length bytes at packed block =
    omega (arith, ap length block.is, block.ends, length-take (size_at bytes at) (drop (place_at bytes at) bytes), length-drop (place_at bytes at) bytes)

module _ (part : Part) (at place : ℕ) (packed later given : Contents) (bytes : List ℕ) (next : IsNext part at place packed later given bytes) where
  abbrev pub new_size : ℕ
  new_size = length (block_of given)

  pub new_size_small : new_size + 9 ≤ 4294967296
  new_size_small = omega (arith, block_size given, end_of-size given, next.within)

  -- The new block is behind the roots and in range.
  pub new_place : (58 ≤ place) × (place ≤ greatest_place)
  new_place = elim (free_place_is new_size (place_at bytes at) (end_at bytes at later)) [
    | inl low ↦ (omega (arith, low.0, next.place_is), omega (arith, low.0, next.place_is))
    | inr high ↦ (
      omega (arith, high.0, next.place_is, next.log.block.behind_roots),
      omega (arith, high.0, high.1, next.place_is, new_size_small, block_length bytes at packed next.log.block, block_size packed, records_size packed later, next.reach),
    )
  ]

  -- It is apart from the area in force, its closed gate too.
  pub new_apart : Apart place (new_size + 1) (place_at bytes at) (extent at packed later bytes next.log + 1)
  new_apart = elim (free_place_is new_size (place_at bytes at) (end_at bytes at later)) [
    | inl low ↦ inl (omega (arith, low.0, low.1, next.place_is))
    | inr high ↦ inr (omega (arith, high.0, next.place_is))
  ]

  pub new_within : place ≤ length bytes
  new_within = elim (free_place_is new_size (place_at bytes at) (end_at bytes at later)) [
    | inl low ↦ omega (arith, low.0, next.place_is, next.log.starts.long)
    | inr high ↦ omega (arith, high.0, next.place_is, end_within at packed later bytes next.log)
  ]

  pub short_given : AreShort given
  short_given = short_within given next.within

  -- What is next after a write that leaves the log as it is.
  pub next_from : (other : Part) (new : List ℕ) → IsLog at packed later new → IsSameRoot bytes new at → IsMade other at (number_at new at) place given new
      → IsNext other at place packed later given new
  next_from other new log same made = record {
    log = log;
    reach = next.reach;
    within = next.within;
    numbered = omega (arith, same.number, next.numbered);
    place_is = next.place_is ∙ sym (λ i. free_place new_size (same.place i) (same.place i + same.size i + length (records_of later)));
    made = made;
  }

-- A block that a write behind the roots or before it leaves as it is.
holds_kept : (place count : ℕ) (old new : List ℕ) → Torn place count old new → (contents : Contents) (at : ℕ) → place + count ≤ at → Holds contents at old → Holds contents at new
holds_kept place count old new torn contents at behind holds = (holds.0, behind_kept place count old new torn at behind ∙ holds.1)

-- The log as it was, with a standing that may be left.
as_before : (part : Part) (was : Standing) (at : ℕ) (packed later given : Contents) (left : List ℕ) → IsLog at packed later left → number_at left at ≡ was.number
    → MayLeave part was (standing_at left at) → IsLeft part was (packed ++ later) given left
as_before part was at packed later given left log number may = record {
  standing = standing_at left at;
  stands = inl (number, record { at = at; packed = packed; later = later; log = log; contents_are = refl; stands = refl });
  may = may;
}

standing_is : (left : List ℕ) (at : ℕ) (standing : Standing) → number_at left at ≡ standing.number → (gate_at left (other_root at) == 1) ≡ standing.other_open → standing_at left at ≡ standing
standing_is left at standing number gate = λ i. record { number = number i; other_open = gate i }

-- The write of the new block.
module _ (at place : ℕ) (packed later given : Contents) (bytes : List ℕ) (next : IsNext storing at place packed later given bytes) where
  module _ (left : List ℕ) (torn : Torn place (length (writes storing (number_at bytes at) place given)) bytes left) where
    count : ℕ
    count = length (writes storing (number_at bytes at) place given)

    size_is : count ≡ length (block_of given) + 1
    unfolding count
    size_is = length-append (block_of given) (0 ∷ [])

    root_apart : (root : ℕ) → IsRoot root → Apart place count root 25
    root_apart root is = inr (omega (arith, (IsRoot-le root is).1, (new_place storing at place packed later given bytes next).0))

    torn_here : Torn place count bytes left
    unfolding count
    torn_here = torn

    other_same : IsSameRoot bytes left (other_root at)
    other_same = root_kept place count bytes left torn_here (other_root at) (root_apart (other_root at) (other_is_root at next.log.in_force.root))

    pub storing_keeps : IsLog at packed later left × IsSameRoot bytes left at × IsSameRoot bytes left (other_root at)
    storing_keeps =
        let kept =
        log_kept at packed later bytes next.log place count left torn_here (omega (arith, (new_place storing at place packed later given bytes next).0))
        (root_apart at next.log.in_force.root)
        (subst (λ n. Apart place n (place_at bytes at) (extent at packed later bytes next.log + 1)) (sym size_is) (new_apart storing at place packed later given bytes next))
        (λ opened. (sym other_same.gate ∙ opened, other_same.number)) in
        (kept.0, kept.1, other_same)

    pub storing_leaves : IsLeft storing (standing_at bytes at) (packed ++ later) given left
    storing_leaves =
        as_before storing (standing_at bytes at) at packed later given left storing_keeps.0 storing_keeps.1.number
        (standing_is left at (standing_at bytes at) storing_keeps.1.number (ap (λ g. g == 1) other_same.gate))

  -- What that write makes.
  pub after_storing : (made : List ℕ) → made ≡ overlaid bytes place (writes storing (number_at bytes at) place given)
      → LeadsOn storing at place packed later given bytes made
  after_storing made is =
      let written = writes storing (number_at bytes at) place given in
      let within = new_within storing at place packed later given bytes next in
      let torn : Torn place (length written) bytes made = subst (Torn place (length written) bytes) (sym is) (Torn-overlaid bytes place written within) in
      let kept = storing_keeps made torn in
      let rest = drop (place + length written) bytes in
      let holds : Holds given place made =
      (rest, ap (λ (l : List ℕ). drop place l) is ∙ drop-overlaid bytes place written within ∙ append_assoc (block_of given) (0 ∷ []) rest) in (
        kept.1,
        (λ opened. next_from storing at place packed later given bytes next closing made kept.0 kept.1 (holds, kept.2.gate ∙ opened)),
        (λ shut. next_from storing at place packed later given bytes next naming made kept.0 kept.1 (holds, λ opened. shut (sym kept.2.gate ∙ opened))),
      )

-- A write in the other root is apart from the one in force and from its area.
module _ (part : Part) (at place : ℕ) (packed later given : Contents) (bytes : List ℕ) (next : IsNext part at place packed later given bytes) where
  root : IsRoot at
  root = next.log.in_force.root

  own_apart : (from count : ℕ) → other_root at ≤ from → from + count ≤ other_root at + 25 → Apart from count at 25
  own_apart from count low high = elim (other_is at root) [
    | inl first ↦ inr (omega (arith, first.0, first.1))
    | inr second ↦ inl (omega (arith, second.0, second.1))
  ]

  other_low : (8 ≤ other_root at) × (other_root at ≤ 33)
  other_low = IsRoot-le (other_root at) (other_is_root at root)

  -- What such a write leaves, where it doesn't open the other root.
  module _ (from count : ℕ) (low : other_root at ≤ from) (high : from + count ≤ other_root at + 25) (left : List ℕ) (torn : Torn from count bytes left) where
    own_kept : IsSameRoot bytes left at
    own_kept = root_kept from count bytes left torn at (own_apart from count low high)

    within_kept : other_root at < length left
    within_kept = omega (arith, next.log.starts.long, torn.no_shorter, other_low)

    pub root_write_keeps : (gate_at left (other_root at) ≡ 1 → (gate_at bytes (other_root at) ≡ 1) × (number_at left (other_root at) ≡ number_at bytes (other_root at)))
        → IsLog at packed later left × IsSameRoot bytes left at
    root_write_keeps other =
        log_kept at packed later bytes next.log from count left torn (omega (arith, low, other_low)) (own_apart from count low high)
        (inl (omega (arith, high, other_low, next.log.block.behind_roots))) other

    pub new_block_kept : Holds given place bytes → Holds given place left
    new_block_kept = holds_kept from count bytes left torn given place (omega (arith, high, other_low, (new_place part at place packed later given bytes next).0))

-- The closing of the other root's gate.
module _ (at place : ℕ) (packed later given : Contents) (bytes : List ℕ) (next : IsNext closing at place packed later given bytes) where
  module _ (left : List ℕ) (torn : Torn (other_root at) 1 bytes left) where
    pub closing_keeps : IsLog at packed later left × IsSameRoot bytes left at
    closing_keeps =
        root_write_keeps closing at place packed later given bytes next (other_root at) 1 (omega arith) (omega arith) left torn
        (λ opened. (next.made.1, number_behind_gate (other_root at) 1 bytes left torn (other_root at) (omega arith)))

    pub closing_leaves : IsLeft closing (standing_at bytes at) (packed ++ later) given left
    closing_leaves = as_before closing (standing_at bytes at) at packed later given left closing_keeps.0 closing_keeps.1.number (elim (eqb_tells (gate_at left (other_root at)) 1) [
      | inl opened ↦ inl (standing_is left at (standing_at bytes at) closing_keeps.1.number (ap (λ g. g == 1) (opened.1 ∙ sym next.made.1)))
      | inr closed ↦ inr (standing_is left at (shut (standing_at bytes at)) closing_keeps.1.number closed.0)
    ])

  -- What it makes.
  pub after_closing : (made : List ℕ) → made ≡ overlaid bytes (other_root at) (0 ∷ []) → LeadsOn closing at place packed later given bytes made
  after_closing made is =
      let o = other_root at in
      let within : o ≤ length bytes = omega (arith, next.log.starts.long) in
      let torn : Torn o 1 bytes made = subst (Torn o 1 bytes) (sym is) (Torn-overlaid bytes o (0 ∷ []) within) in
      let kept = closing_keeps made torn in
      let gate : gate_at made o ≡ 0 = ap (λ (l : List ℕ). get_or l o 0) is ∙ get_or-overlaid_in bytes o (0 ∷ []) within o (omega arith) (omega arith) ∙ ap (λ n. get_or (0 ∷ []) n 0) (let none : o - o ≡ 0 = omega arith in none) in
      let held = new_block_kept closing at place packed later given bytes next o 1 (omega arith) (omega arith) made torn next.made.0 in
      (kept.1, next_from closing at place packed later given bytes next naming made kept.0 kept.1 (held, λ opened. absurd (omega (arith, gate, opened))))

pub length-fields : (number place size : ℕ) → length (fields_of number place size) ≡ 24
length-fields number place size =
    omega (
      arith,
      length-append (big_endian 8 number) (big_endian 8 place ++ big_endian 8 size),
      length-append (big_endian 8 place) (big_endian 8 size),
      length-big_endian 8 number,
      length-big_endian 8 place,
      length-big_endian 8 size,
    )

-- What a root says whose fields these are.
fields_read : (bytes : List ℕ) (at number place size : ℕ) (rest : List ℕ) → number < 2 ^ 64 → place < 2 ^ 64 → size < 2 ^ 64 → drop (at + 1) bytes ≡ fields_of number place size ++ rest
    → IsNamed bytes at number place size
fields_read bytes at number place size rest few low small is =
    let n = big_endian 8 number in
    let p = big_endian 8 place in
    let s = big_endian 8 size in
    let first : drop (at + 1) bytes ≡ n ++ (p ++ (s ++ rest)) = is ∙ append_assoc n (p ++ s) rest ∙ ap (λ (l : List ℕ). n ++ l) (append_assoc p s rest) in
    let there : at + 1 + 8 ≡ at + 9 = omega arith in
    let further : at + 9 + 8 ≡ at + 17 = omega arith in
    let second : drop (at + 9) bytes ≡ p ++ (s ++ rest) =
    ap (λ k. drop k bytes) (sym there) ∙ sym (drop-drop 8 (at + 1) bytes) ∙ ap (λ (l : List ℕ). drop 8 l) first ∙ drop_at n (p ++ (s ++ rest)) 8 (length-big_endian 8 number) in
    let third : drop (at + 17) bytes ≡ s ++ rest =
    ap (λ k. drop k bytes) (sym further) ∙ sym (drop-drop 8 (at + 9) bytes) ∙ ap (λ (l : List ℕ). drop 8 l) second ∙ drop_at p (s ++ rest) 8 (length-big_endian 8 place) in record {
      number_is = ap (λ (l : List ℕ). number_of (take 8 l)) first ∙ ap number_of (take_at n (p ++ (s ++ rest)) 8 (length-big_endian 8 number)) ∙ number_of-big_endian 8 number (omega (arith, few));
      place_is = ap (λ (l : List ℕ). number_of (take 8 l)) second ∙ ap number_of (take_at p (s ++ rest) 8 (length-big_endian 8 place)) ∙ number_of-big_endian 8 place (omega (arith, low));
      size_is = ap (λ (l : List ℕ). number_of (take 8 l)) third ∙ ap number_of (take_at s rest 8 (length-big_endian 8 size)) ∙ number_of-big_endian 8 size (omega (arith, small));
    }

-- The write of the other root's number, place and size.
module _ (at place : ℕ) (packed later given : Contents) (bytes : List ℕ) (next : IsNext naming at place packed later given bytes) where
  module _ (left : List ℕ) (torn : Torn (other_root at + 1) (length (writes naming (number_at bytes at) place given)) bytes left) where
    torn_fields : Torn (other_root at + 1) 24 bytes left
    torn_fields = subst (λ n. Torn (other_root at + 1) n bytes left) (length-fields (number_at bytes at + 1) place (length (block_of given))) torn

    pub other_shut : gate_at left (other_root at) ≢ 1
    other_shut = λ opened. next.made.1 (sym (gate_before (other_root at + 1) 24 bytes left torn_fields (other_root at) (omega arith)) ∙ opened)

    pub naming_keeps : IsLog at packed later left × IsSameRoot bytes left at
    naming_keeps =
        root_write_keeps naming at place packed later given bytes next (other_root at + 1) 24 (omega arith) (omega arith) left torn_fields (λ opened. absurd (other_shut opened))

    pub naming_leaves : IsLeft naming (standing_at bytes at) (packed ++ later) given left
    naming_leaves = as_before naming (standing_at bytes at) at packed later given left naming_keeps.0 naming_keeps.1.number (elim (eqb_tells (gate_at left (other_root at)) 1) [
      | inl opened ↦ absurd (other_shut opened.1)
      | inr closed ↦ standing_is left at (shut (standing_at bytes at)) naming_keeps.1.number closed.0
    ])

  -- What it makes.
  pub after_naming : (made : List ℕ) → made ≡ overlaid bytes (other_root at + 1) (writes naming (number_at bytes at) place given) → LeadsOn naming at place packed later given bytes made
  after_naming made is =
      let o = other_root at in
      let size = length (block_of given) in
      let written = writes naming (number_at bytes at) place given in
      let within : o + 1 ≤ length bytes = omega (arith, next.log.starts.long) in
      let torn : Torn (o + 1) (length written) bytes made = subst (Torn (o + 1) (length written) bytes) (sym is) (Torn-overlaid bytes (o + 1) written within) in
      let kept = naming_keeps made torn in
      let facts = new_place naming at place packed later given bytes next in
      let named =
      fields_read made o (number_at bytes at + 1) place size (drop (o + 1 + length written) bytes) next.numbered (omega (arith, facts.1))
      (omega (arith, new_size_small naming at place packed later given bytes next)) (ap (λ (l : List ℕ). drop (o + 1) l) is ∙ drop-overlaid bytes (o + 1) written within) in
      let held = new_block_kept naming at place packed later given bytes next (o + 1) 24 (omega arith) (omega arith) made (torn_fields made torn) next.made.0 in
      let renamed : IsNamed made o (number_at made at + 1) place size =
      record { number_is = named.number_is ∙ sym (ap (λ n. n + 1) kept.1.number); place_is = named.place_is; size_is = named.size_is } in
      (kept.1, next_from naming at place packed later given bytes next opening made kept.0 kept.1 (held, other_shut made torn, renamed))

-- The opening of the other root.
module _ (at place : ℕ) (packed later given : Contents) (bytes : List ℕ) (next : IsNext opening at place packed later given bytes) where
  module _ (left : List ℕ) (torn : Torn (other_root at) 1 bytes left) where
    own : IsSameRoot bytes left at
    own = own_kept opening at place packed later given bytes next (other_root at) 1 (omega arith) (omega arith) left torn

    number_there : number_at left (other_root at) ≡ number_at bytes at + 1
    number_there = number_behind_gate (other_root at) 1 bytes left torn (other_root at) (omega arith) ∙ next.made.2.number_is

    place_there : place_at left (other_root at) ≡ place
    place_there = place_behind_gate (other_root at) 1 bytes left torn (other_root at) (omega arith) ∙ next.made.2.place_is

    size_there : size_at left (other_root at) ≡ length (block_of given)
    size_there = size_behind_gate (other_root at) 1 bytes left torn (other_root at) (omega arith) ∙ next.made.2.size_is

    back : other_root (other_root at) ≡ at
    back = other_twice at next.log.in_force.root

    held : Holds given place left
    held = new_block_kept opening at place packed later given bytes next (other_root at) 1 (omega arith) (omega arith) left torn next.made.0

    other_in_force : gate_at left (other_root at) ≡ 1 → IsInForce left (other_root at)
    other_in_force opened = record {
      root = other_is_root at next.log.in_force.root;
      opened = opened;
      greater = λ also.
          let same : number_at left (other_root (other_root at)) ≡ number_at bytes at = ap (λ a. number_at left a) back ∙ own.number in
          inl (omega (arith, same, number_there));
    }

    other_block : HasBlock left (other_root at) given
    other_block =
        let facts = new_place opening at place packed later given bytes next in
        let size = length (block_of given) in
        record {
          behind_roots = omega (arith, facts.0, place_there);
          in_range = omega (arith, facts.1, place_there);
          ends = omega (arith, place_there, size_there, ap length held.1, length-append (block_of given) (0 ∷ held.0), length-drop place left);
          short = short_given opening at place packed later given bytes next;
          is =
              (λ i. take (size_there i) (drop (place_there i) left)) ∙ ap (λ (l : List ℕ). take size l) held.1
              ∙ take_at (block_of given) (0 ∷ held.0) size refl;
        }

    -- Where its gate is 1 the other root is in force, with the given contents in its block and a closed gate behind it.
    pub switched : gate_at left (other_root at) ≡ 1
        → IsLog (other_root at) given [] left × (standing_at left (other_root at) ≡ done (standing_at bytes at))
    switched opened = (
      record {
        starts = starts_kept (other_root at) 1 bytes left torn (omega (arith, IsRoot-le (other_root at) (other_is_root at next.log.in_force.root))) next.log.starts;
        in_force = other_in_force opened;
        block = other_block;
        short = All-nil (λ c. length c < 2 ^ 32);
        gate = 0;
        rest = held.0;
        closed = λ zero_is_one. absurd (omega (arith, zero_is_one));
        is =
            let size = length (block_of given) in
            (λ i. drop (place_there i + size_there i) left) ∙ sym (drop-drop size place left) ∙ ap (λ (l : List ℕ). drop size l) held.1
            ∙ drop_at (block_of given) (0 ∷ held.0) size refl;
      },
      standing_is left (other_root at) (done (standing_at bytes at)) number_there
          (ap (λ a. gate_at left a == 1) back ∙ ap (λ g. g == 1) (own.gate ∙ next.log.in_force.opened)),
    )

    pub not_switched : gate_at left (other_root at) ≢ 1 → IsLog at packed later left × IsSameRoot bytes left at
    not_switched shut = root_write_keeps opening at place packed later given bytes next (other_root at) 1 (omega arith) (omega arith) left torn (λ opened. absurd (shut opened))

    pub opening_leaves : IsLeft opening (standing_at bytes at) (packed ++ later) given left
    opening_leaves = elim (eqb_tells (gate_at left (other_root at)) 1) [
      | inl opened ↦
          let now = switched opened.1 in
          record {
            standing = standing_at left (other_root at);
            stands = inr (
              now.1,
              record {
                at = other_root at;
                packed = given;
                later = [];
                log = now.0;
                contents_are = sym (append-nil given);
                stands = refl;
              },
            );
            may = inr now.1;
          }
      | inr closed ↦
          let still = not_switched closed.1 in
          as_before opening (standing_at bytes at) at packed later given left still.0 still.1.number (inl (standing_is left at (shut (standing_at bytes at)) still.1.number closed.0))
    ]

  -- What it makes.
  pub after_opening : (made : List ℕ) → made ≡ overlaid bytes (other_root at) (1 ∷ []) → IsPacked at given (standing_at bytes at) made
  after_opening made is =
      let o = other_root at in
      let within : o ≤ length bytes = omega (arith, next.log.starts.long) in
      let torn : Torn o 1 bytes made = subst (Torn o 1 bytes) (sym is) (Torn-overlaid bytes o (1 ∷ []) within) in
      let gate : gate_at made o ≡ 1 = ap (λ (l : List ℕ). get_or l o 0) is ∙ get_or-overlaid_in bytes o (1 ∷ []) within o (omega arith) (omega arith) ∙ ap (λ n. get_or (1 ∷ []) n 0) (let none : o - o ≡ 0 = omega arith in none) in
      let now = switched made torn gate in
      record { log = now.0; stands = now.1 }

-- What a crash in a part leaves is a log of the contents before or of the given ones.
pub crash_in : (part : Part) (at place : ℕ) (packed later given : Contents) (bytes left : List ℕ) → IsNext part at place packed later given bytes
    → Torn (writes_at part at place) (length (writes part (number_at bytes at) place given)) bytes left → IsLeft part (standing_at bytes at) (packed ++ later) given left
crash_in storing at place packed later given bytes left next torn = storing_leaves at place packed later given bytes next left torn
crash_in closing at place packed later given bytes left next torn = closing_leaves at place packed later given bytes next left torn
crash_in naming at place packed later given bytes left next torn = naming_leaves at place packed later given bytes next left torn
crash_in opening at place packed later given bytes left next torn = opening_leaves at place packed later given bytes next left torn

-- Where they are the same, of these.
pub same_left : (part : Part) (was : Standing) (contents : Contents) (left : List ℕ) → IsLeft part was contents contents left → (now : Standing) × Stands contents now left × MayLeave part was now
same_left part was contents left is = (is.standing, ⊎_elim (λ still. still.1) (λ switched. switched.1) is.stands, is.may)

-- What a part makes lets the next one come.
pub leads_on : (part : Part) (at place : ℕ) (packed later given : Contents) (bytes : List ℕ) → IsNext part at place packed later given bytes
    → LeadsOn part at place packed later given bytes (made_by part at place given bytes)
leads_on storing at place packed later given bytes next = after_storing at place packed later given bytes next (made_by storing at place given bytes) refl
leads_on closing at place packed later given bytes next = after_closing at place packed later given bytes next (made_by closing at place given bytes) refl
leads_on naming at place packed later given bytes next = after_naming at place packed later given bytes next (made_by naming at place given bytes) refl
leads_on opening at place packed later given bytes next = after_opening at place packed later given bytes next (made_by opening at place given bytes) refl

-- Where the new block lies.
pub lies_apart : (at place : ℕ) (packed later given : Contents) (bytes : List ℕ) → IsNext storing at place packed later given bytes
    → IsBlockPlace place (length (block_of given)) (place_at bytes at) (end_at bytes at later) × (place ≤ length bytes)
lies_apart at place packed later given bytes next =
    let facts = new_place storing at place packed later given bytes next in (
      record {
        behind_roots = facts.0;
        in_range = facts.1;
        apart = elim (new_apart storing at place packed later given bytes next) [
          | inl before ↦ inl (omega (arith, before))
          | inr behind ↦ inr (omega (arith, behind))
        ];
      },
      new_within storing at place packed later given bytes next,
    )

-- All parts, one after another.
module _ (at place : ℕ) (packed later given : Contents) (bytes : List ℕ) (next : IsNext storing at place packed later given bytes) where
  from_naming : (was : List ℕ) → number_at was at ≡ number_at bytes at → IsNext naming at place packed later given was
      → IsPacked at given (standing_at bytes at) (made_by_all (naming ∷ opening ∷ []) at place given was)
  from_naming was number is =
      let named = made_by naming at place given was in
      let third = leads_on naming at place packed later given was is in
      let fourth = leads_on opening at place packed later given named third.1 in
      record { log = fourth.log; stands = fourth.stands ∙ (λ i. record { number = (third.0.number ∙ number) i + 1; other_open = true }) }

  -- What a whole checkpoint makes.
  pub packs : IsPacked at given (standing_at bytes at) (made_by_all (parts_of (gate_at bytes (other_root at) == 1)) at place given bytes)
  packs =
      let stored = made_by storing at place given bytes in
      let first = leads_on storing at place packed later given bytes next in
      elim (eqb_tells (gate_at bytes (other_root at)) 1) [
        | inl opened ↦
            let second = leads_on closing at place packed later given stored (first.1 opened.1) in
            subst (λ b. IsPacked at given (standing_at bytes at) (made_by_all (parts_of b) at place given bytes)) (sym opened.0)
            (from_naming (made_by closing at place given stored) (second.0.number ∙ first.0.number) second.1)
        | inr closed ↦
            subst (λ b. IsPacked at given (standing_at bytes at) (made_by_all (parts_of b) at place given bytes)) (sym closed.0)
            (from_naming stored first.0.number (first.2 closed.1))
      ]

-- What a stop or a fault leaves in a schedule is among what a crash may leave.
pub left_is_allowed : (part : Part) (mode : Mode) (was : Standing) → MayLeave part was (left_by part mode was)
left_is_allowed storing mode was = refl
left_is_allowed closing modes.Lost was = inl refl
left_is_allowed closing modes.Kept was = inr refl
left_is_allowed closing modes.Torn was = inr refl
left_is_allowed naming mode was = refl
left_is_allowed opening modes.Lost was = inl refl
left_is_allowed opening modes.Kept was = inr refl
left_is_allowed opening modes.Torn was = inl refl

pub shut-closed : (was : Standing) → was.other_open ≡ false → shut was ≡ was
shut-closed was closed = λ i. record { number = was.number; other_open = sym closed i }

-- What a part may leave, as what the whole checkpoint may leave.
shut_same : (was now : Standing) → IsUnderWay was now → shut now ≡ shut was
shut_same was now (inl same) = ap shut same
shut_same was now (inr closed) = ap shut closed

done_same : (was now : Standing) → IsUnderWay was now → done now ≡ done was
done_same was now (inl same) = ap done same
done_same was now (inr closed) = ap done closed

under_way : (was now left : Standing) → IsUnderWay was now → left ≡ now → MayLeaveInAll was left
under_way was now left (inl same) may = inl (may ∙ same)
under_way was now left (inr closed) may = inr (inl (may ∙ closed))

pub part_of_all : (part : Part) (was now left : Standing) → IsUnderWay was now → MayLeave part now left → MayLeaveInAll was left
part_of_all storing was now left is may = under_way was now left is may
part_of_all closing was now left is (inl may) = under_way was now left is may
part_of_all closing was now left is (inr may) = inr (inl (may ∙ shut_same was now is))
part_of_all naming was now left is may = inr (inl (may ∙ shut_same was now is))
part_of_all opening was now left is (inl may) = inr (inl (may ∙ shut_same was now is))
part_of_all opening was now left is (inr may) = inr (inr (may ∙ done_same was now is))

-- With the contents that go with it.
number_same : (was now : Standing) → IsUnderWay was now → now.number ≡ was.number
number_same was now (inl same) = ap Standing.number same
number_same was now (inr closed) = ap Standing.number closed

before_in_all : (was standing : Standing) (before given : Contents) (left : List ℕ) → standing.number ≡ was.number → Stands before standing left → MayLeaveInAll was standing
    → IsBeforeOrGiven given was before left
before_in_all was standing before given left number stands (inl same) = inl (subst (λ s. Stands before s left) same stands)
before_in_all was standing before given left number stands (inr (inl closed)) = inr (inl (subst (λ s. Stands before s left) closed stands))
before_in_all was standing before given left number stands (inr (inr finished)) = absurd (omega (arith, number, ap Standing.number finished))

pub left_in_all : (part : Part) (was now : Standing) (before given : Contents) (left : List ℕ) → IsUnderWay was now → IsLeft part now before given left → IsBeforeOrGiven given was before left
left_in_all part was now before given left is leaves = elim leaves.stands [
  | inl still ↦
      before_in_all was leaves.standing before given left (still.0 ∙ number_same was now is) still.1 (part_of_all part was now leaves.standing is leaves.may)
  | inr switched ↦ inr (inr (subst (λ s. Stands given s left) (switched.0 ∙ done_same was now is) switched.1))
]
