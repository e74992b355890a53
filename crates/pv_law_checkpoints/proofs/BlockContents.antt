-- Bytes read as the contents of a block exactly where they are the block of these contents.
use Rattle.std.proofs.Common.{◌≡◌, inl, inr, ℕ, zero, suc, ◌-◌, ◌^◌, ◌<◌, ◌≤◌, Bool, true, false, if◌then◌else◌, List, [], ◌∷◌, ◌++◌, Option, Some, None, length, take, drop, refl, sym, ◌∙◌, ap, subst, arith, append_assoc, length-append, length-take, length-drop}
use Rattle.std.specs.Option.{option_map}
use Rattle.std.specs.Str.{bytes_eq}
use Rattle.std.proofs.lemmas.Bool.{cases_Bool}
use Rattle.std.proofs.lemmas.List.{take-append-drop, take_at, drop_at}
use Rattle.std.proofs.lemmas.List.Elements.{All-nil, All-cons, All-head, All-tail}
use Rattle.std.proofs.lemmas.Slice.Eq.{bytes_eq-Decides}
use Rattle.pv_base.specs.BigEndian.{big_endian, number_of}
use Rattle.pv_base.proofs.BigEndianLemmas.{length-big_endian, number_of-big_endian, number_of-lt, AreBytes-big_endian}
use Rattle.pv_disk_model.specs.Size.{Contents}
use Rattle.pv_format.specs.Journal.{framed, AreShort}
use Rattle.pv_format.specs.JournalContents.{content_at}
use Rattle.pv_law_journal.proofs.Bodies.{first_and_rest}
use Rattle.pv_law_journal.proofs.SizeLemmas.{length-framed}
use Rattle.pv_law_checkpoints.specs.LogContents.{block_contents}
use Rattle.pv_law_checkpoints.specs.TwoAreas.{block_of}
use Rattle.pv_law_checkpoints.proofs.Blocks.{IsBlock}

-- Passing bytes over is dropping them.
passed_over : (passed : ℕ) (bytes : List ℕ) → passed ≤ length bytes → block_contents passed bytes ≡ block_contents 0 (drop passed bytes)
passed_over zero bytes le = refl
passed_over (suc passed) [] le = absurd (omega arith)
passed_over (suc passed) (byte ∷ bytes) le = passed_over passed bytes (omega arith)

abbrev stands : List ℕ → List ℕ → Bool
stands content block = bytes_eq (take (length (framed content)) block) (framed content)

-- What a block comes to, with this content first or not.
abbrev opened_if : Bool → List ℕ → List ℕ → Option Contents
opened_if there content rest = if there then option_map (λ (later : Contents). content ∷ later) (block_contents 0 rest) else None

drop_one_less : (count byte : ℕ) (bytes : List ℕ) → 0 < count → drop (count - 1) bytes ≡ drop count (byte ∷ bytes)
drop_one_less zero byte bytes some = absurd (omega arith)
drop_one_less (suc count) byte bytes some = let less : suc count - 1 ≡ count = omega arith in ap (λ n. drop n bytes) less

-- The first content of what may be a block.
first_content : (byte : ℕ) (bytes : List ℕ) → let block = byte ∷ bytes in let content = content_at block in
    (stands content block ≡ true) → block_contents 0 block ≡ option_map (λ (later : Contents). content ∷ later) (block_contents 0 (drop (length (framed content)) block))
first_content byte bytes there =
    let block = byte ∷ bytes in
    let content = content_at block in
    let count = length (framed content) in
    let front : take count block ≡ framed content = (bytes_eq-Decides (take count block) (framed content)).0 there in
    let long : count ≤ length block = omega (arith, ap length front, length-take count block) in
    ap (λ b. if b then option_map (λ (later : Contents). content ∷ later) (block_contents (count - 1) bytes) else None) there
    ∙ ap (option_map (λ (later : Contents). content ∷ later))
    (passed_over (count - 1) bytes (omega (arith, long)) ∙ ap (block_contents 0) (drop_one_less count byte bytes (omega (arith, length-framed content))))

no_content : (byte : ℕ) (bytes : List ℕ) → stands (content_at (byte ∷ bytes)) (byte ∷ bytes) ≡ false → block_contents 0 (byte ∷ bytes) ≡ None
no_content byte bytes missing =
    let content = content_at (byte ∷ bytes) in
    ap (λ b. if b then option_map (λ (later : Contents). content ∷ later) (block_contents (length (framed content) - 1) bytes) else None) missing

-- What stands after its length is read.
content_at-framed : (content rest : List ℕ) → length content < 2 ^ 32 → content_at (framed content ++ rest) ≡ content
content_at-framed content rest short =
    let bytes = framed content ++ rest in
    let number = big_endian 4 (length content) in
    let size : length number ≡ 4 = length-big_endian 4 (length content) in
    let split : bytes ≡ number ++ (content ++ rest) = append_assoc number content rest in
    let count : number_of (take 4 bytes) ≡ length content =
    ap (λ (l : List ℕ). number_of (take 4 l)) split ∙ ap number_of (take_at number (content ++ rest) 4 size) ∙ number_of-big_endian 4 (length content) short in
    let behind : drop 4 bytes ≡ content ++ rest = ap (λ (l : List ℕ). drop 4 l) split ∙ drop_at number (content ++ rest) 4 size in
    (λ i. take (count i) (behind i)) ∙ take_at content rest (length content) refl

-- A framed content comes first.
framed_first : (content rest : List ℕ) (byte : ℕ) (bytes : List ℕ) → length content < 2 ^ 32 → framed content ++ rest ≡ byte ∷ bytes
    → block_contents 0 (byte ∷ bytes) ≡ option_map (λ (later : Contents). content ∷ later) (block_contents 0 rest)
framed_first content rest byte bytes short same =
    let is : content_at (byte ∷ bytes) ≡ content = ap content_at (sym same) ∙ content_at-framed content rest short in
    let there : stands (content_at (byte ∷ bytes)) (byte ∷ bytes) ≡ true =
    (λ i. stands (is i) (sym same i))
    ∙ (bytes_eq-Decides (take (length (framed content)) (framed content ++ rest)) (framed content)).1 (take_at (framed content) rest (length (framed content)) refl) in
    let behind : drop (length (framed (content_at (byte ∷ bytes)))) (byte ∷ bytes) ≡ rest =
    (λ i. drop (length (framed (is i))) (sym same i)) ∙ drop_at (framed content) rest (length (framed content)) refl in
    first_content byte bytes there ∙ (λ i. option_map (λ (later : Contents). is i ∷ later) (block_contents 0 (behind i)))

-- A block has its contents.
pub block_contents-block : (contents : Contents) → AreShort contents → block_contents 0 (block_of contents) ≡ Some contents
block_contents-block [] short = refl
block_contents-block (content ∷ contents) short =
    let parts = first_and_rest (framed content ++ block_of contents) (omega (arith, length-append (framed content) (block_of contents), length-framed content)) in
    ap (block_contents 0) parts.2
    ∙ framed_first content (block_of contents) parts.0 parts.1 (All-head (λ c. length c < 2 ^ 32) content contents short) parts.2
    ∙ ap (option_map (λ (later : Contents). content ∷ later)) (block_contents-block contents (All-tail (λ c. length c < 2 ^ 32) content contents short))

-- What there is of contents with one more in front.
one_in_front : (content : List ℕ) (found : Option Contents) (contents : Contents) → option_map (λ (later : Contents). content ∷ later) found ≡ Some contents
    → (later : Contents) × (found ≡ Some later) × (contents ≡ content ∷ later)
one_in_front content None contents is = cc
one_in_front content (Some later) contents is = (later, refl, let same : content ∷ later ≡ contents = cc in sym same)

-- A content that stands after its length is short enough for it.
short_content : (bytes rest : List ℕ) → bytes ≡ framed (content_at bytes) ++ rest → length (content_at bytes) < 2 ^ 32
short_content bytes rest is =
    let content = content_at bytes in
    let number = big_endian 4 (length content) in
    let size : length number ≡ 4 = length-big_endian 4 (length content) in
    let front : take 4 bytes ≡ number = ap (λ (l : List ℕ). take 4 l) (is ∙ append_assoc number content rest) ∙ take_at number (content ++ rest) 4 size in
    let bound : number_of number < 256 ^ length number = number_of-lt number (AreBytes-big_endian 4 (length content)) in
    omega (arith, ap number_of front, bound, ap (λ n. 256 ^ n) size, length-take (number_of (take 4 bytes)) (drop 4 bytes))

-- Bytes that have contents as a block are the block of these.
pub are_block : (steps : ℕ) (block : List ℕ) (contents : Contents) → length block ≤ steps → block_contents 0 block ≡ Some contents → IsBlock block contents
are_block steps [] contents few is =
    let none : [] ≡ contents = cc in
    subst (λ (c : Contents). IsBlock [] c) none (All-nil (λ c. length c < 2 ^ 32), refl)
are_block zero (byte ∷ bytes) contents few is = absurd (omega arith)
are_block (suc steps) (byte ∷ bytes) contents few is =
    let block = byte ∷ bytes in
    let content = content_at block in
    let count = length (framed content) in
    elim (cases_Bool (stands content block)) [
      | inr missing ↦ let both : None ≡ Some contents = sym (no_content byte bytes missing) ∙ is in cc
      | inl there ↦
          let rest = drop count block in
          let more = one_in_front content (block_contents 0 rest) contents (sym (first_content byte bytes there) ∙ is) in
          let front : take count block ≡ framed content = (bytes_eq-Decides (take count block) (framed content)).0 there in
          let whole : block ≡ framed content ++ rest = sym (take-append-drop count block) ∙ ap (λ (l : List ℕ). l ++ rest) front in
          let ok = are_block steps rest more.0 (omega (arith, few, length-drop count block, length-framed content)) more.1 in
          subst (λ (c : Contents). IsBlock block c) (sym more.2) (
            All-cons (λ c. length c < 2 ^ 32) content more.0 (short_content block rest whole) ok.0,
            whole ∙ ap (λ (l : List ℕ). framed content ++ l) ok.1,
          )
    ]
