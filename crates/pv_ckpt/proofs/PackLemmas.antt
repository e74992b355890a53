-- How the block of all contents grows while an area is read.
use Rattle.std.proofs.Common.{◌≡◌, ℕ, ◌+◌, ◌^◌, ◌<◌, ◌≤◌, List, [], ◌∷◌, ◌++◌, length, take, drop, arith, refl, sym, ◌∙◌, ap, append_assoc, length-append}
use Rattle.std.proofs.lemmas.List.{append-nil, take_at}
use Rattle.std.proofs.lemmas.List.Concat.{flat_map-append}
use Rattle.std.proofs.lemmas.List.Elements.{All-head, All-tail}
use Rattle.pv_base.specs.BigEndian.{big_endian, number_of}
use Rattle.pv_base.proofs.BigEndianLemmas.{length-big_endian, number_of-big_endian}
use Rattle.pv_disk_model.specs.Size.{Contents}
use Rattle.pv_format.specs.Journal.{framed, record_of, records_of, AreShort}
use Rattle.pv_law_calls.proofs.RecordLemmas.{after_gate, length-record_of, records_of-push}
use Rattle.pv_law_checkpoints.specs.TwoAreas.{block_of}
use Rattle.pv_ckpt.specs.Roots.{IsHeld}
use Rattle.pv_ckpt.specs.declared.roots.Root.{Root}
use Rattle.pv_ckpt.proofs.ReadLemmas.{behind_front, block_of-push}

-- The number that was read is the length of the content that stands after it.
pub count_told : (content more number : List ℕ) (count : ℕ) → number ≡ take 4 (framed content ++ more) → big_endian 4 count ≡ number → count < 2 ^ 32 → length content < 2 ^ 32
    → count ≡ length content
count_told content more number count is spelled few short =
    let own = big_endian 4 (length content) in
    let front : take 4 (framed content ++ more) ≡ own =
    ap (λ (l : List ℕ). take 4 l) (append_assoc own content more) ∙ take_at own (content ++ more) 4 (length-big_endian 4 (length content)) in
    sym (number_of-big_endian 4 count few) ∙ ap number_of (spelled ∙ is ∙ front) ∙ number_of-big_endian 4 (length content) short

-- Up to this place the block has been made: it has these of the later contents, and those that are left stand from here on.
pub record PackedTo (bytes : List ℕ) (root : Root) (packed later : Contents) (place : ℕ) (block : List ℕ) : Type 0 where
  pub done : Contents
  pub left : Contents
  pub tail : List ℕ
  pub all : later ≡ done ++ left
  pub short : AreShort left
  pub place_is : place ≡ root.place + root.size + length (records_of done)
  pub block_is : block ≡ block_of (packed ++ done)
  pub stands : drop place bytes ≡ records_of left ++ tail

module _ (bytes : List ℕ) (root : Root) (end : ℕ) (packed later : Contents) (held : IsHeld bytes root end packed later) where
  end_is : end ≡ root.place + root.size + length (records_of later)
  end_is = omega (arith, held.end_is, held.root_is.place, held.root_is.size)

  -- After the block of the root.
  pub packed_first : (block : List ℕ) → block ≡ take root.size (drop root.place bytes) → PackedTo bytes root packed later (root.place + root.size) block
  packed_first block is =
      let size = held.root_is.size in
      let place = held.root_is.place in
      record {
        done = [];
        left = later;
        tail = held.log.gate ∷ held.log.rest;
        all = refl;
        short = held.log.short;
        place_is = omega arith;
        block_is = is ∙ (λ i. take (size i) (drop (place i) bytes)) ∙ held.log.block.is ∙ ap block_of (sym (append-nil packed));
        stands = (λ i. drop (place i + size i) bytes) ∙ held.log.is;
      }

  -- All of it, where nothing is left.
  none_left : (done left : Contents) (place : ℕ) → later ≡ done ++ left → place ≡ root.place + root.size + length (records_of done) → end ≤ place → done ≡ later
  none_left done [] place all place_is past = sym (append-nil done) ∙ sym all
  none_left done (content ∷ left) place all place_is past =
      let sizes : length (records_of later) ≡ length (records_of done) + length (record_of content ++ records_of left) =
      ap (λ (c : Contents). length (records_of c)) all ∙ ap length (flat_map-append record_of done (content ∷ left)) ∙ length-append (records_of done) (record_of content ++ records_of left) in
      absurd (omega (arith, end_is, place_is, past, sizes, length-append (record_of content) (records_of left), length-record_of content))

  pub packed_all : (place : ℕ) (block : List ℕ) → PackedTo bytes root packed later place block → end ≤ place → block ≡ block_of (packed ++ later)
  packed_all place block to past = to.block_is ∙ ap (λ (c : Contents). block_of (packed ++ c)) (none_left to.done to.left place to.all to.place_is past)

  -- One more record, as it was read.
  more : (done left : Contents) (tail : List ℕ) (place count : ℕ) (block new : List ℕ) → later ≡ done ++ left → AreShort left → place ≡ root.place + root.size + length (records_of done)
      → block ≡ block_of (packed ++ done) → drop place bytes ≡ records_of left ++ tail → place < end
      → ((content rest : List ℕ) → length content < 2 ^ 32 → drop place bytes ≡ record_of content ++ rest → count ≡ length (framed content))
      → new ≡ block ++ take count (drop (place + 1) bytes) → PackedTo bytes root packed later (place + (1 + count)) new
  more done [] tail place count block new all short place_is block_is stands before told new_is =
      absurd (omega (arith, end_is, place_is, before, ap (λ (c : Contents). length (records_of c)) (all ∙ append-nil done)))
  more done (content ∷ left) tail place count block new all short place_is block_is stands before told new_is =
      let rest = records_of left ++ tail in
      let fits = All-head (λ c. length c < 2 ^ 32) content left short in
      let here : drop place bytes ≡ record_of content ++ rest = stands ∙ append_assoc (record_of content) (records_of left) tail in
      let count_is : count ≡ length (framed content) = told content rest fits here in
      let behind : drop (place + 1) bytes ≡ framed content ++ rest = after_gate bytes (framed content ++ rest) place 1 here in
      let read : take count (drop (place + 1) bytes) ≡ framed content = ap (λ (l : List ℕ). take count l) behind ∙ take_at (framed content) rest count (sym count_is) in
      let next : place + (1 + count) ≡ place + length (record_of content) = omega (arith, count_is) in
      record {
        done = done ++ content ∷ [];
        left = left;
        tail = tail;
        all = all ∙ sym (append_assoc done (content ∷ []) left);
        short = All-tail (λ c. length c < 2 ^ 32) content left short;
        place_is = omega (arith, place_is, next, ap length (records_of-push done content), length-append (records_of done) (record_of content));
        block_is =
            new_is ∙ (λ i. block_is i ++ read i) ∙ sym (block_of-push (packed ++ done) content) ∙ ap block_of (append_assoc packed done (content ∷ []));
        stands = ap (λ n. drop n bytes) next ∙ behind_front bytes place (record_of content) rest here;
      }

  pub packed_more : (place count : ℕ) (block new : List ℕ) → PackedTo bytes root packed later place block → place < end
      → ((content rest : List ℕ) → length content < 2 ^ 32 → drop place bytes ≡ record_of content ++ rest → count ≡ length (framed content))
      → new ≡ block ++ take count (drop (place + 1) bytes) → PackedTo bytes root packed later (place + (1 + count)) new
  packed_more place count block new to before told new_is =
      more to.done to.left to.tail place count block new to.all to.short to.place_is to.block_is to.stands before told new_is
