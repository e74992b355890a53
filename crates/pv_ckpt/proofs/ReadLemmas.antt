-- What was read of a log in two areas, and the log that it is.
use Rattle.std.proofs.Common.{◌≡◌, ◌≢◌, inl, inr, ℕ, suc, ◌+◌, ◌-◌, ◌^◌, ◌<◌, ◌≤◌, List, [], ◌∷◌, ◌++◌, length, take, drop, arith, refl, sym, ◌∙◌, ap, append_assoc, length-append, length-take, length-drop}
use Rattle.std.specs.Prelude.{replicate}
use Rattle.std.proofs.lemmas.Bool.{cases_lt}
use Rattle.std.proofs.lemmas.List.{append-nil, drop-drop, drop_at, length-replicate, take-append-le, take-take, take_at, nil_from_length}
use Rattle.std.proofs.lemmas.List.Concat.{flat_map-append}
use Rattle.std.proofs.lemmas.List.Elements.{All-head, All-tail}
use Rattle.pv_disk_model.specs.Size.{Contents}
use Rattle.pv_format.specs.Journal.{framed, records_of, AreShort, IsCut}
use Rattle.pv_law_checkpoints.specs.Roots.{place_at, size_at}
use Rattle.pv_law_checkpoints.specs.TwoAreas.{behind_block, block_of, end_at, greatest_place, EndsCut, HasBlock, HasNoBlock}
use Rattle.pv_law_checkpoints.proofs.Blocks.{framed_begins, framed_some}
use Rattle.pv_ckpt.specs.Reading.{BeginsAt, IsCutBefore, IsReadOf, IsReadShort, LacksBlock}
use Rattle.pv_ckpt.specs.Roots.{IsHeld, IsRootOf}
use Rattle.pv_ckpt.specs.declared.roots.Root.{Root}
use Rattle.pv_ckpt.proofs.FrontLemmas.{root_moved}

pub block_of-push : (contents : Contents) (content : List ℕ) → block_of (contents ++ content ∷ []) ≡ block_of contents ++ framed content
block_of-push contents content = flat_map-append framed contents (content ∷ []) ∙ ap (λ (l : List ℕ). block_of contents ++ l) (append-nil (framed content))

-- What stands behind a front.
pub behind_front : (bytes : List ℕ) (place : ℕ) (front rest : List ℕ) → drop place bytes ≡ front ++ rest → drop (place + length front) bytes ≡ rest
behind_front bytes place front rest is =
    sym (drop-drop (length front) place bytes) ∙ ap (λ (l : List ℕ). drop (length front) l) is ∙ drop_at front rest (length front) refl

-- One piece after another.
pub begins_more : (bytes : List ℕ) (place next : ℕ) (front more : List ℕ) → BeginsAt bytes place front → next ≡ place + length front → BeginsAt bytes next more
    → BeginsAt bytes place (front ++ more)
begins_more bytes place next front more (rest, is) next_is (tail, there) =
    let behind : rest ≡ more ++ tail = sym (behind_front bytes place front rest is) ∙ ap (λ n. drop n bytes) (sym next_is) ∙ there in
    (tail, is ∙ ap (λ (l : List ℕ). front ++ l) behind ∙ sym (append_assoc front more tail))

-- Where whole contents are followed by none, no contents fill the block.
pub cut_after : (all packed : Contents) (rest : List ℕ) → AreShort all → AreShort packed → block_of packed ≡ block_of all ++ rest → 0 < length rest
    → ((content more : List ℕ) → length content < 2 ^ 32 → rest ≡ framed content ++ more → ⊥) → ⊥
cut_after [] [] rest short fits is some cut = absurd (omega (arith, ap length is, some))
cut_after [] (y ∷ packed) rest short fits is some cut = cut y (block_of packed) (All-head (λ c. length c < 2 ^ 32) y packed fits) (sym is)
cut_after (x ∷ all) [] rest short fits is some cut = absurd (framed_some x (block_of all ++ rest) (is ∙ append_assoc (framed x) (block_of all) rest))
cut_after (x ∷ all) (y ∷ packed) rest short fits is some cut =
    let parts =
    framed_begins y x (block_of packed) (block_of all ++ rest) (All-head (λ c. length c < 2 ^ 32) y packed fits) (All-head (λ c. length c < 2 ^ 32) x all short)
    (is ∙ append_assoc (framed x) (block_of all) rest) in
    cut_after all packed rest (All-tail (λ c. length c < 2 ^ 32) x all short) (All-tail (λ c. length c < 2 ^ 32) y packed fits) parts.1 some cut

take_both : (front rest : List ℕ) (count : ℕ) → take (length front + count) (front ++ rest) ≡ front ++ take count rest
take_both [] rest count = let none : length {A = ℕ} [] + count ≡ count = omega arith in ap (λ n. take n rest) none
take_both (x ∷ front) rest count =
    let next : length (x ∷ front) + count ≡ suc (length front + count) = omega arith in
    ap (λ n. take n (x ∷ (front ++ rest))) next ∙ ap (λ (l : List ℕ). x ∷ l) (take_both front rest count)

-- A block that is cut there.
pub cut_lacks : (bytes : List ℕ) (root : Root) (all : Contents) (place left : ℕ) → AreShort all → BeginsAt bytes root.place (block_of all) → place ≡ root.place + length (block_of all)
    → left + place ≡ root.place + root.size → 0 < left → IsCutBefore (drop place bytes) left → LacksBlock bytes root
cut_lacks bytes root all place left short (rest, is) place_is left_is some cut packed in_range fits whole =
    let block = block_of all in
    let there : drop place bytes ≡ rest = ap (λ n. drop n bytes) place_is ∙ behind_front bytes root.place block rest is in
    let size_is : length block + left ≡ root.size = omega (arith, place_is, left_is) in
    let long : left ≤ length rest = omega (arith, ap length there, length-drop place bytes, in_range.ends, left_is) in
    let split : take root.size (block ++ rest) ≡ block ++ take left rest =
    ap (λ n. take n (block ++ rest)) (sym size_is) ∙ take_both block rest left in
    cut_after all packed (take left rest) short fits (sym whole ∙ ap (λ (l : List ℕ). take root.size l) is ∙ split) (omega (arith, length-take left rest, long, some))
    (λ content more small same. cut content more small (ap (λ (l : List ℕ). take left l) there ∙ same))

-- The log whose parts these are.
module _ (front bytes : List ℕ) (root : Root) (root_is : IsRootOf front root) (same : take 58 front ≡ take 58 bytes) (long : 59 ≤ length bytes) (packed later : Contents)
    (behind_roots : 58 ≤ root.place) (in_range : root.place ≤ greatest_place) (fits : AreShort packed) (size_is : root.size ≡ length (block_of packed))
    (tail : List ℕ) (is : drop root.place bytes ≡ block_of packed ++ (records_of later ++ tail)) (some : 0 < length tail) where
  here : IsRootOf bytes root
  here = root_moved front bytes same root long root_is

  block_here : take (size_at bytes root.at) (drop (place_at bytes root.at) bytes) ≡ block_of packed
  block_here =
      let size : size_at bytes root.at ≡ root.size = sym here.size in
      let place : place_at bytes root.at ≡ root.place = sym here.place in
      (λ i. take (size i) (drop (place i) bytes)) ∙ ap (λ (l : List ℕ). take root.size l) is
      ∙ take_at (block_of packed) (records_of later ++ tail) root.size (sym size_is)

  has_block : HasBlock bytes root.at packed
  has_block = record {
    behind_roots = omega (arith, here.place, behind_roots);
    in_range = omega (arith, here.place, in_range);
    ends = omega (arith, here.place, here.size, size_is, ap length is, length-append (block_of packed) (records_of later ++ tail), length-append (records_of later) tail, length-drop root.place bytes, some);
    short = fits;
    is = block_here;
  }

  behind : behind_block bytes root.at ≡ records_of later ++ tail
  behind =
      let there : place_at bytes root.at + size_at bytes root.at ≡ root.place + length (block_of packed) = omega (arith, here.place, here.size, size_is) in
      ap (λ n. drop n bytes) there ∙ behind_front bytes root.place (block_of packed) (records_of later ++ tail) is

  end_there : (end : ℕ) → end ≡ root.place + root.size + length (records_of later) → end ≡ end_at bytes root.at later
  end_there end end_is = omega (arith, end_is, here.place, here.size)

  -- A closed gate comes after the records.
  pub held_is : (end gate : ℕ) (rest : List ℕ) → tail ≡ gate ∷ rest → gate ≢ 1 → AreShort later → end ≡ root.place + root.size + length (records_of later)
      → IsHeld bytes root end packed later
  held_is end gate rest tail_is closed short end_is = record {
    root_is = here;
    log = record {
      starts = here.starts;
      in_force = here.in_force;
      block = has_block;
      short = short;
      gate = gate;
      rest = rest;
      closed = closed;
      is = behind ∙ ap (λ (l : List ℕ). records_of later ++ l) tail_is;
    };
    end_is = end_there end end_is;
  }

  -- An open gate comes after them, and then no whole record.
  pub cut_is : (place : ℕ) (rest : List ℕ) → tail ≡ 1 ∷ rest → IsCut rest → AreShort later → place ≡ root.place + root.size + length (records_of later) → EndsCut bytes place
  cut_is place rest tail_is cut short place_is = record {
    starts = here.starts;
    at = root.at;
    in_force = here.in_force;
    packed = packed;
    block = has_block;
    later = later;
    short = short;
    rest = rest;
    is = behind ∙ ap (λ (l : List ℕ). records_of later ++ l) tail_is;
    cut = cut;
    place_is = end_there place place_is;
  }

-- The root in force has no block.
pub none_here : (front bytes : List ℕ) (root : Root) → IsRootOf front root → take 58 front ≡ take 58 bytes → 59 ≤ length bytes → LacksBlock bytes root → HasNoBlock bytes root.at
none_here front bytes root root_is same long lacks =
    let here = root_moved front bytes same root long root_is in
    record {
      starts = here.starts;
      at = root.at;
      in_force = here.in_force;
      none = λ packed block.
          let size : root.size ≡ size_at bytes root.at = here.size in
          let place : root.place ≡ place_at bytes root.at = here.place in
          lacks packed
          record { behind_roots = omega (arith, place, block.behind_roots); in_range = omega (arith, place, block.in_range); ends = omega (arith, place, size, block.ends) }
          block.short
          ((λ i. take (size i) (drop (place i) bytes)) ∙ block.is);
      place_is = refl;
    }

-- Bytes that begin so, and from the place of the root in force on are what was read there.
module _ (front walked : List ℕ) (root : Root) (root_is : IsRootOf front root) (whole : length front ≡ 59) (behind_roots : 58 ≤ root.place) where
  before : List ℕ
  before = take root.place (front ++ replicate (root.place - 59) 0)

  pub laid : List ℕ
  laid = before ++ walked

  before_size : length before ≡ root.place
  unfolding before
  before_size =
      omega (
        arith,
        length-take root.place (front ++ replicate (root.place - 59) 0),
        length-append front (replicate (root.place - 59) 0),
        length-replicate {A = ℕ} (root.place - 59) 0,
        whole,
        behind_roots,
      )

  pub laid_area : drop root.place laid ≡ walked
  unfolding laid
  laid_area = drop_at before walked root.place before_size

  pub laid_size : length laid ≡ root.place + length walked
  unfolding laid
  laid_size = omega (arith, length-append before walked, before_size)

  pub laid_front : take 58 front ≡ take 58 laid
  unfolding laid before
  laid_front =
      let padded = front ++ replicate (root.place - 59) 0 in
      sym (take-append-le 58 front (replicate (root.place - 59) 0) (omega (arith, whole))) ∙ sym (take-take 58 root.place padded behind_roots)
      ∙ sym (take-append-le 58 (take root.place padded) walked (omega (arith, before_size)))

  pub laid_read : 59 ≤ length laid → IsReadOf laid (front ++ walked)
  laid_read long =
      let here = root_moved front laid laid_front root long root_is in
      inr (record {
        front = take-append-le 58 front walked (omega (arith, whole)) ∙ laid_front;
        long = long;
        at = root.at;
        in_force = here.in_force;
        area = drop_at front walked 59 whole ∙ sym laid_area ∙ ap (λ n. drop n laid) here.place;
      })

-- What was read of a block that there isn't is what is read of bytes in which there is none.
pub none_read : (front walked : List ℕ) (root : Root) → IsRootOf front root → length front ≡ 59 → IsReadShort walked root
    → (bytes : List ℕ) × IsReadOf bytes (front ++ walked) × HasNoBlock bytes root.at
none_read front walked root root_is whole (inl (nothing, outside)) =
    let is : front ≡ front ++ walked = sym (append-nil front) ∙ ap (λ (l : List ℕ). front ++ l) (sym nothing) in (
      front,
      inl (is, omega (arith, whole, ap length is)),
      none_here front front root root_is refl (omega (arith, whole)) (λ packed in_range fits full. elim outside [
        | inl early ↦ absurd (omega (arith, early, in_range.behind_roots))
        | inr far ↦ absurd (omega (arith, far, in_range.in_range))
      ]),
    )
none_read front walked root root_is whole (inr (behind, big, few)) = elim (cases_lt 0 (length walked)) [
  | inr nothing ↦
      let empty : walked ≡ [] = nil_from_length walked (omega (arith, nothing)) in
      let is : front ≡ front ++ walked = sym (append-nil front) ∙ ap (λ (l : List ℕ). front ++ l) (sym empty) in (
        front,
        inl (is, omega (arith, whole, ap length is)),
        none_here front front root root_is refl (omega (arith, whole)) (λ packed in_range fits full. absurd (omega (arith, in_range.ends, big, whole))),
      )
  | inl some ↦
      let size = laid_size front walked root root_is whole behind in
      let long : 59 ≤ length (laid front walked root root_is whole behind) = omega (arith, size, some, behind) in (
        laid front walked root root_is whole behind,
        laid_read front walked root root_is whole behind long,
        none_here front (laid front walked root root_is whole behind) root root_is (laid_front front walked root root_is whole behind) long
            (λ packed in_range fits full. absurd (omega (arith, in_range.ends, size, few))),
      )
]
