-- What an opening reads of a log in two areas: all but the contents.
use Rattle.std.specs.Prelude.{◌≡◌, ◌⊎◌, ℕ, ◌+◌, ◌-◌, ◌<◌, ◌≤◌, List, [], ◌∷◌, ◌++◌, Some, length}
use Rattle.std.specs.List.{flat_map}
use Rattle.pv_base.specs.BigEndian.{big_endian}
use Rattle.pv_disk_model.specs.DiskModel.{DiskModel}
use Rattle.pv_disk_model.specs.Disk.{Gives}
use Rattle.pv_disk_model.specs.Size.{Contents, size_of}
use Rattle.pv_format.specs.Journal.{records_of, AreShort}
use Rattle.pv_law_calls.specs.Reading.{Gave}
use Rattle.pv_law_checkpoints.specs.TwoAreas.{block_of, greatest_place}
use Rattle.pv_ckpt.specs.Reading.{BeginsAt, IsReadOf, LacksLength}
use Rattle.pv_ckpt.specs.Roots.{IsHeld, IsRootOf, IsRootless}
use Rattle.pv_ckpt.specs.declared.roots.Root.{Root}

-- What is read of a content in a block: its length.
abbrev pub length_of : List ℕ → List ℕ
length_of content = big_endian 4 (length content)

-- What is read of a record: its open gate, and the length of its content.
abbrev pub gate_of : List ℕ → List ℕ
gate_of content = 1 ∷ length_of content

-- The outline of what would be read with these contents: the roots, lengths alone of the contents in the block and in the records, and what comes after these.
pub record Outlines (packed later : Contents) (whole read : List ℕ) : Type 0 where
  pub front : List ℕ
  pub tail : List ℕ
  pub roots : length front ≡ 59
  pub whole_is : whole ≡ front ++ (block_of packed ++ (records_of later ++ tail))
  pub read_is : read ≡ front ++ (flat_map length_of packed ++ (flat_map gate_of later ++ tail))

-- The reads gave all of these bytes but for these contents, and for the bytes between the roots and the area in force.
abbrev pub IsOutlined : List ℕ → List ℕ → (packed later : Contents) → Type 0
IsOutlined bytes read packed later = (whole : List ℕ) × IsReadOf bytes whole × Outlines packed later whole read

-- The block of this root is out of range, or may be: its place is, or a disk that has no more than a log begins with ends before the byte behind it.
abbrev pub IsOutOfRange : Root → Type 0
IsOutOfRange root = (root.place < 58) ⊎ (greatest_place < root.place) ⊎ (59 ≤ root.place + root.size)

-- Of the block of this root, whose place is in range, the lengths of these contents were read. They don't fill it, and then comes no length, or one that goes past its end.
pub record LeavesUnfilled (packed : Contents) (read : List ℕ) (root : Root) : Type 0 where
  pub behind_roots : 58 ≤ root.place
  pub in_range : root.place ≤ greatest_place
  pub short : AreShort packed
  pub before : length (block_of packed) < root.size
  pub rest : List ℕ
  pub lacks : LacksLength rest (root.size - length (block_of packed))
  pub is : read ≡ flat_map length_of packed ++ rest

-- So far was read of a block that there isn't: nothing where it is out of range, else lengths that don't fill it.
abbrev pub IsOutlinedShort : List ℕ → Root → Type 0
IsOutlinedShort read root = ((read ≡ []) × IsOutOfRange root) ⊎ ((packed : Contents) × LeavesUnfilled packed read root)

-- What a log begins with, in which a root is in force that has no block. It shows where that root stands.
pub record OutlinesNoBlock (read : List ℕ) (place : ℕ) : Type 0 where
  pub front : List ℕ
  pub roots : length front ≡ 59
  pub root : Root
  pub root_is : IsRootOf front root
  pub block : List ℕ
  pub short : IsOutlinedShort block root
  pub is : read ≡ front ++ block
  pub place_is : place ≡ root.at

-- What a log begins with, the lengths of contents that fill the block of the root in force, an open gate and a length for each record behind it, and then an open gate, at
-- this place, and after it no length, or one that the disk has no bytes for.
pub record OutlinesCut (read : List ℕ) (place : ℕ) : Type 0 where
  pub front : List ℕ
  pub roots : length front ≡ 59
  pub root : Root
  pub root_is : IsRootOf front root
  pub behind_roots : 58 ≤ root.place
  pub in_range : root.place ≤ greatest_place
  pub packed : Contents
  pub fits : AreShort packed
  pub filled : root.size ≡ length (block_of packed)
  pub later : Contents
  pub short : AreShort later
  pub rest : List ℕ
  pub few : length rest ≤ 4
  pub is : read ≡ front ++ (flat_map length_of packed ++ (flat_map gate_of later ++ 1 ∷ rest))
  pub place_is : place ≡ root.place + root.size + length (records_of later)

-- No log in two areas, which shows at this place: in what it begins with, which alone was read, in the block of the root in force, or at an open gate behind it.
abbrev pub OutlinesNone : List ℕ → ℕ → Type 0
OutlinesNone read place = ((length read ≤ 59) × IsRootless read place) ⊎ OutlinesNoBlock read place ⊎ OutlinesCut read place

module _ {D : Type 0} (M : DiskModel D) where
  -- A block begins at this place with these contents, and the reads gave their lengths.
  pub record MeasuresBlock (old new : D) (place : ℕ) (packed : Contents) : Type 0 where
    pub short : AreShort packed
    pub gave : Gives M old new (flat_map length_of packed)
    pub stands : (bytes : List ℕ) → M.content old ≡ Some bytes → BeginsAt bytes place (block_of packed)

  -- What the reads gave is the outline of a log with this root in force, this end and this length.
  abbrev pub GaveOutline : D → D → Root → (end size : ℕ) → Type 0
  GaveOutline old new root end size =
      Gave M old new (λ read. (bytes : List ℕ) × (packed : Contents) × (later : Contents) × IsOutlined bytes read packed later × IsHeld bytes root end packed later
      × (size ≡ size_of (packed ++ later)))

  -- What the reads gave is the outline of no log, which shows at this place.
  abbrev pub GaveNoOutline : D → D → ℕ → Type 0
  GaveNoOutline old new place = Gave M old new (λ read. OutlinesNone read place)
