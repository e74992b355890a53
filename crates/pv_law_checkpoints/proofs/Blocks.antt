-- Bytes are a block of one list of contents, or of none.
use Rattle.std.proofs.Common.{◌≡◌, ◌⊎◌, inl, inr, ℕ, zero, suc, ◌+◌, ◌^◌, ◌<◌, ◌≤◌, List, [], ◌∷◌, ◌++◌, length, take, drop, arith, refl, sym, ◌∙◌, ap, append_assoc, length-append, length-drop}
use Rattle.std.proofs.lemmas.List.{take-append-drop, take_at, take-append-le}
use Rattle.std.proofs.lemmas.List.Concat.{flat_map-append}
use Rattle.std.proofs.lemmas.List.Sums.{sum_by-cons}
use Rattle.std.proofs.lemmas.List.Elements.{All-nil, All-cons, All-head, All-tail}
use Rattle.pv_base.specs.BigEndian.{big_endian}
use Rattle.pv_base.specs.declared.limits.TheConstants.{MAX_JOURNAL}
use Rattle.pv_base.proofs.BigEndianLemmas.{big_endian-begins, append-same_length}
use Rattle.pv_disk_model.specs.Size.{Contents, size_of}
use Rattle.pv_format.specs.Journal.{framed, record_of, records_of, AreShort, IsCut}
use Rattle.pv_law_journal.proofs.Bodies.{frame_of, first_and_rest}
use Rattle.pv_law_journal.proofs.SizeLemmas.{length-framed, end_of-size}
use Rattle.pv_law_checkpoints.specs.TwoAreas.{block_of}

-- Bytes that begin with a framed content begin with no other one.
pub framed_begins : (x y rest more : List ℕ) → length x < 2 ^ 32 → length y < 2 ^ 32 → framed x ++ rest ≡ framed y ++ more → (x ≡ y) × (rest ≡ more)
framed_begins x y rest more short_x short_y is =
    let left = append_assoc (big_endian 4 (length x)) x rest in
    let right = append_assoc (big_endian 4 (length y)) y more in
    let numbers = big_endian-begins 4 (length x) (length y) (x ++ rest) (y ++ more) short_x short_y (sym left ∙ is ∙ right) in
    append-same_length x y rest more numbers.0 numbers.1

pub framed_some : (content rest : List ℕ) → [] ≡ framed content ++ rest → ⊥
framed_some content rest is = absurd (omega (arith, ap length is, length-append (framed content) rest, length-framed content))

pub same_block : (a b : Contents) → AreShort a → AreShort b → block_of a ≡ block_of b → a ≡ b
same_block [] [] short_a short_b is = refl
same_block [] (y ∷ b) short_a short_b is = absurd (framed_some y (block_of b) is)
same_block (x ∷ a) [] short_a short_b is = absurd (framed_some x (block_of a) (sym is))
same_block (x ∷ a) (y ∷ b) short_a short_b is =
    let parts = framed_begins x y (block_of a) (block_of b) (All-head (λ c. length c < 2 ^ 32) x a short_a) (All-head (λ c. length c < 2 ^ 32) y b short_b) is in
    let rest = same_block a b (All-tail (λ c. length c < 2 ^ 32) x a short_a) (All-tail (λ c. length c < 2 ^ 32) y b short_b) parts.1 in
    (λ i. parts.0 i ∷ rest i)

abbrev pub IsBlock : List ℕ → Contents → Type 0
IsBlock block contents = AreShort contents × (block ≡ block_of contents)

abbrev pub BlockOrNone : List ℕ → Type 0
BlockOrNone block = ((contents : Contents) × IsBlock block contents) ⊎ ((contents : Contents) → IsBlock block contents → ⊥)

-- A whole framed content before what is no block.
no_more : (content rest block : List ℕ) → length content < 2 ^ 32 → block ≡ framed content ++ rest → ((contents : Contents) → IsBlock rest contents → ⊥)
    → (contents : Contents) → IsBlock block contents → ⊥
no_more content rest block short is none [] ok = framed_some content rest (sym ok.1 ∙ is)
no_more content rest block short is none (x ∷ contents) ok =
    let parts = framed_begins x content (block_of contents) rest (All-head (λ c. length c < 2 ^ 32) x contents ok.0) short (sym ok.1 ∙ is) in
    none contents (All-tail (λ c. length c < 2 ^ 32) x contents ok.0, sym parts.1)

-- A whole framed content before what may be a block.
more_block : (content rest block : List ℕ) → length content < 2 ^ 32 → block ≡ framed content ++ rest → BlockOrNone rest → BlockOrNone block
more_block content rest block short is (inl (contents, ok)) = inl (
  content ∷ contents,
  (All-cons (λ c. length c < 2 ^ 32) content contents short ok.0, is ∙ ap (λ (l : List ℕ). framed content ++ l) ok.1),
)
more_block content rest block short is (inr none) = inr (no_more content rest block short is none)

-- Where no whole framed content comes with a byte behind it, no block begins.
cut_block : (block : List ℕ) → 0 < length block → IsCut (block ++ 0 ∷ []) → (contents : Contents) → IsBlock block contents → ⊥
cut_block block some cut [] ok = absurd (omega (arith, ap length ok.1))
cut_block block some cut (x ∷ contents) ok =
    let next = first_and_rest (block_of contents ++ 0 ∷ []) (omega (arith, length-append (block_of contents) (0 ∷ []))) in
    cut x next.1 next.0 (All-head (λ c. length c < 2 ^ 32) x contents ok.0)
    (ap (λ (l : List ℕ). l ++ 0 ∷ []) ok.1 ∙ append_assoc (framed x) (block_of contents) (0 ∷ []) ∙ ap (λ (l : List ℕ). framed x ++ l) next.2)

-- A whole framed content with a byte behind it is the front of a block.
framed_front : (block content more : List ℕ) (gate : ℕ) → block ++ 0 ∷ [] ≡ framed content ++ gate ∷ more
    → (block ≡ framed content ++ drop (length (framed content)) block) × (length (framed content) ≤ length block)
framed_front block content more gate is =
    let count = length (framed content) in
    let long : count ≤ length block = omega (arith, ap length is, length-append block (0 ∷ []), length-append (framed content) (gate ∷ more)) in
    let front : take count block ≡ framed content =
    sym (take-append-le count block (0 ∷ []) long) ∙ ap (λ (l : List ℕ). take count l) is ∙ take_at (framed content) (gate ∷ more) count refl in
    (sym (take-append-drop count block) ∙ ap (λ (l : List ℕ). l ++ drop count block) front, long)

block_within : (steps : ℕ) (block : List ℕ) → length block ≤ steps → BlockOrNone block
block_within steps [] few = inl ([], (All-nil (λ c. length c < 2 ^ 32), refl))
block_within zero (byte ∷ block) few = absurd (omega arith)
block_within (suc steps) (byte ∷ block) few = elim (frame_of ((byte ∷ block) ++ 0 ∷ [])) [
  | inr cut ↦ inr (cut_block (byte ∷ block) (omega arith) cut)
  | inl frame ↦
      let parts = framed_front (byte ∷ block) frame.content frame.more frame.gate frame.is in
      let count = length (framed frame.content) in
      let rest = drop count (byte ∷ block) in
      more_block frame.content rest (byte ∷ block) frame.short parts.0
      (block_within steps rest (omega (arith, few, length-framed frame.content, length-drop count (byte ∷ block), parts.1)))
]

-- Bytes are a block of some contents, or of none.
pub block_or_none : (block : List ℕ) → BlockOrNone block
block_or_none block = block_within (length block) block (omega arith)

-- A block is no longer than a log of its contents, and with records no longer than a log of all.
pub block_size : (contents : Contents) → length (block_of contents) ≤ length (records_of contents)
block_size [] = omega arith
block_size (content ∷ contents) =
    omega (arith, block_size contents, length-append (framed content) (block_of contents), length-append (record_of content) (records_of contents))

pub records_size : (packed later : Contents) → length (records_of packed) + length (records_of later) + 9 ≡ size_of (packed ++ later)
records_size packed later =
    omega (arith, end_of-size (packed ++ later), ap length (flat_map-append record_of packed later), length-append (records_of packed) (records_of later))

-- Contents within the limit are short.
pub short_within : (contents : Contents) → size_of contents ≤ MAX_JOURNAL → AreShort contents
short_within [] within = All-nil (λ c. length c < 2 ^ 32)
short_within (content ∷ contents) within =
    let more = sum_by-cons (λ c. 5 + length c) content contents in
    All-cons (λ c. length c < 2 ^ 32) content contents (omega (arith, more, within)) (short_within contents (omega (arith, more, within)))
