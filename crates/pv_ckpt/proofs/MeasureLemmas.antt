-- A log that is measured: of its contents the lengths alone are read.
use Rattle.std.proofs.Common.{◌≡◌, inl, inr, ℕ, ◌+◌, ◌-◌, ◌^◌, ◌<◌, ◌≤◌, List, [], ◌∷◌, ◌++◌, Some, length, take, drop, arith, refl, sym, ◌∙◌, ap, subst, length-append, length-take, length-drop}
use Rattle.std.specs.List.{flat_map}
use Rattle.std.proofs.lemmas.Bool.{cases_lt}
use Rattle.std.proofs.lemmas.List.{append-nil}
use Rattle.std.proofs.lemmas.List.Concat.{flat_map-append}
use Rattle.std.proofs.lemmas.List.Elements.{All-nil, All-cons, All-append}
use Rattle.pv_base.specs.BigEndian.{big_endian}
use Rattle.pv_disk_model.specs.DiskModel.{DiskModel}
use Rattle.pv_disk_model.specs.Disk.{Gives}
use Rattle.pv_disk_model.specs.Size.{Contents, size_of}
use Rattle.pv_format.specs.Journal.{framed, record_of, records_of}
use Rattle.pv_law_calls.proofs.GivenLemmas.{gives_more}
use Rattle.pv_law_checkpoints.specs.TwoAreas.{block_of, greatest_place}
use Rattle.pv_law_checkpoints.proofs.Blocks.{records_size}
use Rattle.pv_law_journal.proofs.SizeLemmas.{length-framed}
use Rattle.pv_ckpt.specs.Outline.{IsOutlined, IsOutOfRange, MeasuresBlock, gate_of, length_of}
use Rattle.pv_ckpt.specs.Reading.{BeginsAt, IsInRange, IsReadOf}
use Rattle.pv_ckpt.specs.declared.roots.Root.{Root}
use Rattle.pv_ckpt.proofs.FramedLemmas.{framed_stands, gives_nothing}
use Rattle.pv_ckpt.proofs.ReadLemmas.{begins_more, block_of-push}
use Rattle.pv_ckpt.proofs.RecordLemmas.{content_for}

module _ {D : Type 0} (M : DiskModel D) (old : D) (place : ℕ) where
  pub none_measured : MeasuresBlock M old old place []
  none_measured = record { short = All-nil (λ c. length c < 2 ^ 32); gave = gives_nothing M old; stands = λ bytes is. (drop place bytes, refl) }

  -- One more content, which stands there.
  with_content : (mid new : D) (packed : Contents) (next count : ℕ) (content : List ℕ) → MeasuresBlock M old mid place packed → next ≡ place + length (block_of packed) → count < 2 ^ 32
      → Gives M mid new (big_endian 4 count) → length content ≡ count → ((bytes : List ℕ) → M.content old ≡ Some bytes → BeginsAt bytes next (framed content))
      → MeasuresBlock M old new place (packed ++ content ∷ []) × (next + (4 + count) ≡ place + length (block_of (packed ++ content ∷ [])))
  with_content mid new packed next count content has next_is fits gives size begins =
      let grown = block_of-push packed content in
      let lengths : flat_map length_of (packed ++ content ∷ []) ≡ flat_map length_of packed ++ big_endian 4 count =
      flat_map-append length_of packed (content ∷ []) ∙ ap (λ (l : List ℕ). flat_map length_of packed ++ l) (append-nil (length_of content))
      ∙ ap (λ n. flat_map length_of packed ++ big_endian 4 n) size in (
        record {
          short =
              All-append (λ c. length c < 2 ^ 32) packed (content ∷ []) has.short
              (All-cons (λ c. length c < 2 ^ 32) content [] (omega (arith, size, fits)) (All-nil (λ c. length c < 2 ^ 32)));
          gave = subst (Gives M old new) (sym lengths) (gives_more M old mid new (flat_map length_of packed) (big_endian 4 count) has.gave gives);
          stands = λ bytes is.
              subst (BeginsAt bytes place) (sym grown) (begins_more bytes place next (block_of packed) (framed content) (has.stands bytes is) next_is (begins bytes is));
        },
        omega (arith, next_is, ap length grown, length-append (block_of packed) (framed content), length-framed content, size),
      )

  -- One more content, whose length was read.
  pub one_more_measured : (mid new : D) (packed : Contents) (next count : ℕ) → MeasuresBlock M old mid place packed → next ≡ place + length (block_of packed) → count < 2 ^ 32
      → Gives M mid new (big_endian 4 count)
      → ((bytes : List ℕ) → M.content old ≡ Some bytes → (take 4 (drop next bytes) ≡ big_endian 4 count) × (next + (4 + count) ≤ length bytes))
      → (content : List ℕ) × (length content ≡ count) × MeasuresBlock M old new place (packed ++ content ∷ [])
      × (next + (4 + count) ≡ place + length (block_of (packed ++ content ∷ [])))
  one_more_measured mid new packed next count has next_is fits gives known =
      let one =
      content_for (M.content old) count (λ bytes content. BeginsAt bytes next (framed content))
      (λ bytes is.
      let there = known bytes is in
      let content = take count (drop (next + 4) bytes) in
      let size : length content ≡ count = omega (arith, length-take count (drop (next + 4) bytes), length-drop (next + 4) bytes, there.1) in
      (content, size, framed_stands bytes (big_endian 4 count) content next count (sym there.0) refl refl size)) in
      let all = with_content mid new packed next count one.0 has next_is fits gives one.1 one.2 in
      (one.0, one.1, all.0, all.1)

-- A block that isn't in range on a disk of this size.
pub outside : (root : Root) (size : ℕ) → 59 ≤ size → (IsInRange root size → ⊥) → IsOutOfRange root
outside root size long none = elim (cases_lt root.place 58) [
  | inl early ↦ inl early
  | inr behind ↦ elim (cases_lt greatest_place root.place) [
    | inl far ↦ inr (inl far)
    | inr near ↦ elim (cases_lt (root.place + root.size) size) [
      | inl inside ↦ absurd (none (record { behind_roots = behind; in_range = near; ends = inside }))
      | inr past ↦ inr (inr (omega (arith, past, long)))
    ]
  ]
]

-- As records its contents have one byte more each.
records_count : (packed : Contents) → length (records_of packed) ≡ length (block_of packed) + length packed
records_count [] = refl
records_count (content ∷ packed) =
    omega (arith, records_count packed, length-append (framed content) (block_of packed), length-append (record_of content) (records_of packed))

-- The length of a log, by how many contents its block has and where its area lies.
pub measured_size : (packed later : Contents) (count place size end : ℕ) → length packed ≡ count → size ≡ length (block_of packed) → end ≡ place + size + length (records_of later)
    → 9 + count + (end - place) ≡ size_of (packed ++ later)
measured_size packed later count place size end count_is size_is end_is =
    omega (arith, records_size packed later, records_count packed, count_is, size_is, end_is)

-- What would be read with the contents, and what was read.
pub outlined : (front tail bytes : List ℕ) (packed later : Contents) → length front ≡ 59 → IsReadOf bytes (front ++ (block_of packed ++ (records_of later ++ tail)))
    → IsOutlined bytes (front ++ (flat_map length_of packed ++ (flat_map gate_of later ++ tail))) packed later
outlined front tail bytes packed later whole is =
    (front ++ (block_of packed ++ (records_of later ++ tail)), is, record { front = front; tail = tail; roots = whole; whole_is = refl; read_is = refl })
