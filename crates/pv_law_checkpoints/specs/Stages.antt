-- A checkpoint, and a rewriting, which is one with given contents in its block: what each of its parts writes, and where.
use Rattle.std.specs.Prelude.{◌≡◌, ◌≢◌, ◌⊎◌, ℕ, ◌+◌, ◌^◌, ◌<◌, ◌≤◌, nat_lt, ◌==◌, if◌then◌else◌, List, [], ◌∷◌, ◌++◌, length, drop, ⊤}
use Rattle.pv_base.specs.declared.limits.TheConstants.{MAX_JOURNAL}
use Rattle.pv_disk_model.specs.Disk.{overlaid}
use Rattle.pv_disk_model.specs.Size.{Contents, size_of}
use Rattle.pv_format.specs.Checkpoint.{Standing, done, shut, Part, storing, closing, naming, opening, MayLeave}
use Rattle.pv_law_checkpoints.specs.Roots.{fields_of, other_root, gate_at, number_at, place_at, size_at, IsSameRoot}
use Rattle.pv_law_checkpoints.specs.TwoAreas.{block_of, end_at, greatest_place, IsLog}

-- How these bytes stand where the root at this place is in force.
abbrev pub standing_at : List ℕ → ℕ → Standing
standing_at bytes at = record { number = number_at bytes at; other_open = gate_at bytes (other_root at) == 1 }

-- The bytes are a log in two areas with these contents, and stand so.
pub record Stands (contents : Contents) (standing : Standing) (bytes : List ℕ) : Type 0 where
  pub at : ℕ
  pub packed : Contents
  pub later : Contents
  pub log : IsLog at packed later bytes
  pub contents_are : contents ≡ packed ++ later
  pub stands : standing_at bytes at ≡ standing

-- The bytes are a log that stands so: with the contents before where the number in force is as it was, with the given ones where it stands as after a checkpoint that is done.
abbrev pub StandsEither : (was : Standing) → (before given : Contents) → Standing → List ℕ → Type 0
StandsEither was before given now bytes = ((now.number ≡ was.number) × Stands before now bytes) ⊎ ((now ≡ done was) × Stands given now bytes)

-- What a crash at any moment of a whole checkpoint with given contents in its block may leave: a log of the contents before, which stands as before or with the other gate not 1;
-- or one of the given contents, which stands as after a checkpoint that is done.
abbrev pub IsBeforeOrGiven : (given : Contents) → (was : Standing) → (before : Contents) → List ℕ → Type 0
IsBeforeOrGiven given was before left = Stands before was left ⊎ Stands before (shut was) left ⊎ Stands given (done was) left

-- Between the parts of a checkpoint the log stands as before, or the other gate isn't 1.
abbrev pub IsUnderWay : Standing → Standing → Type 0
IsUnderWay was now = (now ≡ was) ⊎ (now ≡ shut was)

-- The greatest length of a log of which a checkpoint may be made, so that its block, where it stands behind the area in force, is in range: 2 to the 35th power.
abbrev pub greatest_length : ℕ
greatest_length = 34359738368

-- Where a block of so many bytes is put: at 58 where it ends, with a gate behind it, before the area in force, else behind that area's closed gate.
abbrev pub free_place : (size in_force end : ℕ) → ℕ
free_place size in_force end = if nat_lt in_force (59 + size) then end + 1 else 58

-- A block of so many bytes with a gate behind it is at this place behind the roots, in range, and apart from the area that goes from that place to that closed gate.
pub record IsBlockPlace (place size in_force end : ℕ) : Type 0 where
  pub behind_roots : 58 ≤ place
  pub in_range : place ≤ greatest_place
  pub apart : (place + size + 1 ≤ in_force) ⊎ (end + 1 ≤ place)

-- Where a part of a checkpoint writes. The root at `at` is in force, and the new block stands at `place`.
abbrev pub writes_at : Part → (at place : ℕ) → ℕ
writes_at storing at place = place
writes_at closing at place = other_root at
writes_at naming at place = other_root at + 1
writes_at opening at place = other_root at

-- What it writes.
abbrev pub writes : Part → (number place : ℕ) → Contents → List ℕ
writes storing number place contents = block_of contents ++ 0 ∷ []
writes closing number place contents = 0 ∷ []
writes naming number place contents = fields_of (number + 1) place (length (block_of contents))
writes opening number place contents = 1 ∷ []

-- The block of these contents and a closed gate stand at this place.
abbrev pub Holds : Contents → ℕ → List ℕ → Type 0
Holds contents place bytes = (rest : List ℕ) × (drop place bytes ≡ block_of contents ++ 0 ∷ rest)

-- The root at this place has this number and a block of so many bytes at that place.
pub record IsNamed (bytes : List ℕ) (at number place size : ℕ) : Type 0 where
  pub number_is : number_at bytes at ≡ number
  pub place_is : place_at bytes at ≡ place
  pub size_is : size_at bytes at ≡ size

-- What the parts before this one have made. A closing comes only where the other root's gate is 1.
abbrev pub IsMade : Part → (at number place : ℕ) → Contents → List ℕ → Type 0
IsMade storing at number place contents bytes = ⊤
IsMade closing at number place contents bytes = Holds contents place bytes × (gate_at bytes (other_root at) ≡ 1)
IsMade naming at number place contents bytes = Holds contents place bytes × (gate_at bytes (other_root at) ≢ 1)
IsMade opening at number place contents bytes =
    Holds contents place bytes × (gate_at bytes (other_root at) ≢ 1) × IsNamed bytes (other_root at) (number + 1) place (length (block_of contents))

-- A part of a checkpoint is next, whose block is to have the given contents: the log is as before, and holds what the parts before this one have made.
pub record IsNext (part : Part) (at place : ℕ) (packed later given : Contents) (bytes : List ℕ) : Type 0 where
  pub log : IsLog at packed later bytes
  pub reach : size_of (packed ++ later) ≤ greatest_length
  pub within : size_of given ≤ MAX_JOURNAL
  pub numbered : number_at bytes at + 1 < 2 ^ 64
  pub place_is : place ≡ free_place (length (block_of given)) (place_at bytes at) (end_at bytes at later)
  pub made : IsMade part at (number_at bytes at) place given bytes

-- The bytes are a log of the contents before or of the given ones, and stand as a crash in this part may leave them.
pub record IsLeft (part : Part) (was : Standing) (before given : Contents) (bytes : List ℕ) : Type 0 where
  pub standing : Standing
  pub stands : StandsEither was before given standing bytes
  pub may : MayLeave part was standing

-- What the write of a part makes of bytes, so that the next part can come.
abbrev pub made_by : Part → (at place : ℕ) → Contents → List ℕ → List ℕ
made_by part at place contents bytes = overlaid bytes (writes_at part at place) (writes part (number_at bytes at) place contents)

-- What the writes of these parts make of bytes.
abbrev pub made_by_all : List Part → (at place : ℕ) → Contents → List ℕ → List ℕ
made_by_all [] at place contents bytes = bytes
made_by_all (part ∷ parts) at place contents bytes = made_by_all parts at place contents (made_by part at place contents bytes)

-- The other root is in force, its block has these contents, the gate behind it is closed, and the log stands as after a checkpoint that is done.
pub record IsPacked (at : ℕ) (contents : Contents) (was : Standing) (made : List ℕ) : Type 0 where
  pub log : IsLog (other_root at) contents [] made
  pub stands : standing_at made (other_root at) ≡ done was

-- With this write the next part can come. The last one makes a log with the other root in force, the given contents in its block and a closed gate behind it, and the
-- number in force is one more.
abbrev pub LeadsOn : Part → (at place : ℕ) → (packed later given : Contents) → (was made : List ℕ) → Type 0
LeadsOn storing at place packed later given was made =
    IsSameRoot was made at × (gate_at was (other_root at) ≡ 1 → IsNext closing at place packed later given made)
    × (gate_at was (other_root at) ≢ 1 → IsNext naming at place packed later given made)
LeadsOn closing at place packed later given was made = IsSameRoot was made at × IsNext naming at place packed later given made
LeadsOn naming at place packed later given was made = IsSameRoot was made at × IsNext opening at place packed later given made
LeadsOn opening at place packed later given was made = IsPacked at given (standing_at was at) made
