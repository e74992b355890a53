-- The log that was found: of the disk's bytes where they are known, and of bytes of which all was read that was given.
use Rattle.std.proofs.Common.{◌≡◌, ◌≢◌, inl, inr, ℕ, ◌+◌, ◌<◌, ◌≤◌, min, List, [], ◌∷◌, ◌++◌, length, take, drop, refl, sym, ◌∙◌, ap, arith, subst, length-append, length-take}
use Rattle.pv_disk_model.specs.DiskModel.{DiskModel}
use Rattle.pv_disk_model.specs.Disk.{Gives}
use Rattle.pv_disk_model.specs.Size.{Contents}
use Rattle.pv_format.specs.Journal.{records_of, AreShort, IsCut}
use Rattle.pv_law_calls.proofs.GivenLemmas.{gives_more}
use Rattle.pv_law_journal.proofs.Bodies.{frame_length}
use Rattle.pv_law_checkpoints.specs.TwoAreas.{block_of, IsNotOurs}
use Rattle.pv_ckpt.specs.Reading.{BeginsAt, IsInRange, IsReadOf, IsReadShort, LacksBlock}
use Rattle.pv_ckpt.specs.Roots.{IsHeld, IsRootOf}
use Rattle.pv_ckpt.specs.declared.roots.Root.{Root}
use Rattle.pv_ckpt.proofs.FrontLemmas.{front_same}
use Rattle.pv_ckpt.proofs.ReadLemmas.{behind_front, cut_is, held_is, laid, laid_area, laid_front, laid_read, laid_size, none_here, none_read}

-- Three reads, one after another.
pub gives_three : {D : Type 0} (M : DiskModel D) (first second third last : D) (a b c : List ℕ) → Gives M first second a → Gives M second third b → Gives M third last c
    → Gives M first last (a ++ (b ++ c))
gives_three M first second third last a b c gave_a gave_b gave_c = gives_more M first second last a (b ++ c) gave_a (gives_more M second third last b c gave_b gave_c)

module _ (front : List ℕ) (root : Root) (root_is : IsRootOf front root) (few : length front ≤ 59) where
  pub whole : length front ≡ 59
  whole = omega (arith, root_is.starts.long, few)

  -- The block and the records, as they stand in some bytes.
  module _ (size : ℕ) (packed later : Contents) (in_range : IsInRange root size) (fits : AreShort packed) (size_is : root.size ≡ length (block_of packed)) where
    joined : (bytes tail : List ℕ) → BeginsAt bytes root.place (block_of packed) → drop (root.place + root.size) bytes ≡ records_of later ++ tail
        → drop root.place bytes ≡ block_of packed ++ (records_of later ++ tail)
    joined bytes tail (rest, is) behind =
        let there : root.place + length (block_of packed) ≡ root.place + root.size = omega (arith, size_is) in
        let next : rest ≡ records_of later ++ tail = sym (behind_front bytes root.place (block_of packed) rest is) ∙ ap (λ n. drop n bytes) there ∙ behind in
        is ∙ ap (λ (l : List ℕ). block_of packed ++ l) next

    -- The disk's bytes.
    module _ (bytes : List ℕ) (size_told : size ≡ length bytes) (front_is : front ≡ take (min size 59) bytes) (stands : BeginsAt bytes root.place (block_of packed)) where
      same : take 58 front ≡ take 58 bytes
      same = front_same front bytes size size_told front_is 58 (omega (arith, whole))

      long : 59 ≤ length bytes
      long = omega (arith, size_told, in_range.behind_roots, in_range.ends)

      pub found_known : (end gate : ℕ) (rest : List ℕ) → AreShort later → gate ≢ 1 → end ≡ root.place + root.size + length (records_of later)
          → drop (root.place + root.size) bytes ≡ records_of later ++ gate ∷ rest → IsHeld bytes root end packed later
      found_known end gate rest short closed end_is behind =
          held_is front bytes root root_is same long packed later in_range.behind_roots in_range.in_range fits size_is (gate ∷ rest) (joined bytes (gate ∷ rest) stands behind) (omega arith)
          end gate rest refl closed short end_is

      pub cut_known : (place : ℕ) (rest : List ℕ) → AreShort later → IsCut rest → place ≡ root.place + root.size + length (records_of later)
          → drop (root.place + root.size) bytes ≡ records_of later ++ 1 ∷ rest → IsNotOurs bytes place
      cut_known place rest short cut place_is behind =
          inr (inr (inr (inr (
          cut_is front bytes root root_is same long packed later in_range.behind_roots in_range.in_range fits size_is (1 ∷ rest) (joined bytes (1 ∷ rest) stands behind) (omega arith)
          place rest refl cut short place_is
          ))))

    -- What was read, whatever it was read of.
    module _ (tail : List ℕ) (some : 0 < length tail) where
      walked : List ℕ
      walked = block_of packed ++ (records_of later ++ tail)

      bytes_are : List ℕ
      bytes_are = laid front walked root root_is whole in_range.behind_roots

      area : drop root.place bytes_are ≡ block_of packed ++ (records_of later ++ tail)
      unfolding bytes_are walked
      area = laid_area front walked root root_is whole in_range.behind_roots

      front_alike : take 58 front ≡ take 58 bytes_are
      unfolding bytes_are
      front_alike = laid_front front walked root root_is whole in_range.behind_roots

      long_enough : 59 ≤ length bytes_are
      unfolding bytes_are walked
      long_enough =
          omega (
            arith,
            laid_size front walked root root_is whole in_range.behind_roots,
            length-append (block_of packed) (records_of later ++ tail),
            length-append (records_of later) tail,
            some,
            in_range.behind_roots,
          )

      read_of : IsReadOf bytes_are (front ++ walked)
      unfolding bytes_are
      read_of = laid_read front walked root root_is whole in_range.behind_roots long_enough

      pub found_read : (end gate : ℕ) → tail ≡ gate ∷ [] → AreShort later → gate ≢ 1 → end ≡ root.place + root.size + length (records_of later)
          → (bytes : List ℕ) × IsReadOf bytes (front ++ (block_of packed ++ (records_of later ++ tail))) × IsHeld bytes root end packed later
      unfolding walked
      found_read end gate tail_is short closed end_is = (
        bytes_are,
        read_of,
        held_is front bytes_are root root_is front_alike long_enough packed later in_range.behind_roots in_range.in_range fits size_is tail area some
            end gate [] tail_is closed short end_is,
      )

      pub cut_read : (place : ℕ) (rest : List ℕ) → tail ≡ 1 ∷ rest → length rest ≤ 4 → AreShort later → place ≡ root.place + root.size + length (records_of later)
          → (bytes : List ℕ) × IsReadOf bytes (front ++ (block_of packed ++ (records_of later ++ tail))) × IsNotOurs bytes place
      unfolding walked
      cut_read place rest tail_is short_rest short place_is = (
        bytes_are,
        read_of,
        inr (inr (inr (inr (
            cut_is front bytes_are root root_is front_alike long_enough packed later in_range.behind_roots in_range.in_range fits size_is tail area some
            place rest tail_is (λ content more gate fits_too frame. absurd (omega (arith, short_rest, (frame_length rest content more gate fits_too frame).2))) short place_is
            )))),
      )

  -- There is no block.
  pub lacks_known : (bytes : List ℕ) (size place : ℕ) → size ≡ length bytes → front ≡ take (min size 59) bytes → place ≡ root.at → LacksBlock bytes root → IsNotOurs bytes place
  lacks_known bytes size place size_told front_is place_is lacks =
      let front_count : length front ≡ min size 59 = omega (arith, ap length front_is, length-take (min size 59) bytes, size_told) in
      subst (IsNotOurs bytes) (sym place_is)
      (inr (inr (inr (inl (
      none_here front bytes root root_is (front_same front bytes size size_told front_is 58 (omega (arith, whole))) (omega (arith, whole, front_count, size_told)) lacks
      )))))

  pub lacks_read : (place : ℕ) (read : List ℕ) → place ≡ root.at → IsReadShort read root → (bytes : List ℕ) × IsReadOf bytes (front ++ read) × IsNotOurs bytes place
  lacks_read place read place_is short =
      let none = none_read front read root root_is whole short in
      (none.0, none.1, subst (IsNotOurs none.0) (sym place_is) (inr (inr (inr (inl none.2)))))
