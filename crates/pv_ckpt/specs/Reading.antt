-- How a log in two areas is read from a disk: what it begins with, and then what stands from the place of the root in force on.
use Rattle.std.specs.Prelude.{◌≡◌, ◌≢◌, ◌⊎◌, ℕ, ◌+◌, ◌^◌, ◌<◌, ◌≤◌, min, List, [], ◌∷◌, ◌++◌, Some, length, take, drop}
use Rattle.std.specs.List.{flat_map}
use Rattle.pv_base.specs.BigEndian.{big_endian}
use Rattle.pv_disk_model.specs.Size.{Contents}
use Rattle.pv_disk_model.specs.DiskModel.{DiskModel}
use Rattle.pv_disk_model.specs.Disk.{Gives}
use Rattle.pv_format.specs.Journal.{framed, records_of, AreShort, IsCut}
use Rattle.pv_journal.specs.Opening.{contents_in}
use Rattle.pv_law_calls.specs.Reading.{Gave}
use Rattle.pv_law_checkpoints.specs.Roots.{place_at, IsInForce}
use Rattle.pv_law_checkpoints.specs.TwoAreas.{block_of, greatest_place, IsNotOurs}
use Rattle.pv_ckpt.specs.Roots.{IsHeld, IsRootOf}
use Rattle.pv_ckpt.specs.declared.reading.Found.{Found}
use Rattle.pv_ckpt.specs.declared.reading.Front.{Front}
use Rattle.pv_ckpt.specs.declared.roots.Root.{Root}

-- The reads gave what the bytes begin with, up to both roots and one byte more, and then all that stands from the place of the root in force on.
pub record IsReadInTwo (bytes read : List ℕ) : Type 0 where
  pub front : take 58 read ≡ take 58 bytes
  pub long : 59 ≤ length bytes
  pub at : ℕ
  pub in_force : IsInForce bytes at
  pub area : drop 59 read ≡ drop (place_at bytes at) bytes

-- The reads gave all of these bytes, which are no more than a log begins with, or all but those between the roots and the area in force.
abbrev pub IsReadOf : List ℕ → List ℕ → Type 0
IsReadOf bytes read = ((bytes ≡ read) × (length read ≤ 59)) ⊎ IsReadInTwo bytes read

-- The bytes are the log that was found.
abbrev pub IsFound : List ℕ → Found → Type 0
IsFound bytes found = (packed : Contents) × (later : Contents) × IsHeld bytes found.root found.end packed later × (contents_in found.contents ≡ packed ++ later)

-- The block of this root is in range.
pub record IsInRange (root : Root) (size : ℕ) : Type 0 where
  pub behind_roots : 58 ≤ root.place
  pub in_range : root.place ≤ greatest_place
  pub ends : root.place + root.size < size

-- Bytes from this place on begin with these.
abbrev pub BeginsAt : List ℕ → ℕ → List ℕ → Type 0
BeginsAt bytes place front = (rest : List ℕ) × (drop place bytes ≡ front ++ rest)

-- The bytes have no block at this place, of this size: it is out of range, or no contents fill it.
abbrev pub LacksBlock : List ℕ → Root → Type 0
LacksBlock bytes root =
    (packed : Contents) → IsInRange root (length bytes) → AreShort packed → take root.size (drop root.place bytes) ≡ block_of packed → ⊥

-- In the first so many of these bytes there is no whole framed content.
abbrev pub IsCutBefore : List ℕ → ℕ → Type 0
IsCutBefore bytes left = (content more : List ℕ) → length content < 2 ^ 32 → take left bytes ≡ framed content ++ more → ⊥

-- Of a block of which so many bytes are left no length was read, for which there is no room; or one that goes past its end.
abbrev pub LacksLength : List ℕ → ℕ → Type 0
LacksLength read left = ((read ≡ []) × (left < 4)) ⊎ ((count : ℕ) × (count < 2 ^ 32) × (read ≡ big_endian 4 count) × (4 ≤ left) × (left < 4 + count))

-- So far was read of a block that there isn't: nothing where its place is out of range, else not all of it.
abbrev pub IsReadShort : List ℕ → Root → Type 0
IsReadShort read root =
    ((read ≡ []) × ((root.place < 58) ⊎ (greatest_place < root.place))) ⊎ ((58 ≤ root.place) × (59 ≤ root.place + root.size) × (length read ≤ root.size))

module _ {D : Type 0} (M : DiskModel D) where
  -- This was read of what the disk begins with: up to both roots and one byte more, or all where there is less. This root is in force in it.
  pub record ReadsFront (old new : D) (front : Front) : Type 0 where
    pub read : List ℕ
    pub few : length read ≤ 59
    pub root_is : IsRootOf read front.root
    pub gave : Gives M old new read
    pub is : (bytes : List ℕ) → M.content old ≡ Some bytes → (front.size ≡ length bytes) × (read ≡ take (min front.size 59) bytes)

  -- These records and a closed gate stand at this place, of each of which the reads gave so much. The gate is the one at the end.
  pub record ReadsRecords (of_record : List ℕ → List ℕ) (old new : D) (place end : ℕ) (later : Contents) : Type 0 where
    pub short : AreShort later
    pub end_is : end ≡ place + length (records_of later)
    pub gate : ℕ
    pub closed : gate ≢ 1
    pub gave : Gives M old new (flat_map of_record later ++ gate ∷ [])
    pub stands : (bytes : List ℕ) → M.content old ≡ Some bytes → (shut : ℕ) × (rest : List ℕ) × (shut ≢ 1) × (drop place bytes ≡ records_of later ++ shut ∷ rest)

  -- These records and an open gate stand at this place, of each of which the reads gave so much, and what follows is cut. The gate is the one at the end.
  pub record ReadsCut (of_record : List ℕ → List ℕ) (old new : D) (place end : ℕ) (later : Contents) : Type 0 where
    pub short : AreShort later
    pub end_is : end ≡ place + length (records_of later)
    pub read : List ℕ
    pub few : length read ≤ 4
    pub gave : Gives M old new (flat_map of_record later ++ 1 ∷ read)
    pub stands : (bytes : List ℕ) → M.content old ≡ Some bytes → (rest : List ℕ) × (drop place bytes ≡ records_of later ++ 1 ∷ rest) × IsCut rest

  -- What the reads gave is what they give of some bytes that are the log that was found.
  abbrev pub GaveFound : D → D → Found → Type 0
  GaveFound old new found = Gave M old new (λ read. (bytes : List ℕ) × IsReadOf bytes read × IsFound bytes found)

  -- What the reads gave is what they give of some bytes that are no log, which shows at this place.
  abbrev pub GaveNone : D → D → ℕ → Type 0
  GaveNone old new place = Gave M old new (λ read. (bytes : List ℕ) × IsReadOf bytes read × IsNotOurs bytes place)
