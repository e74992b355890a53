-- Which bytes are a log in two areas, with which contents, and where it shows that others are none.
use Rattle.std.specs.Prelude.{◌≡◌, ◌≢◌, ◌⊎◌, ℕ, ◌+◌, ◌≤◌, ◌<◌, List, [], ◌∷◌, ◌++◌, length, take, drop, slice_index}
use Rattle.std.specs.List.{flat_map}
use Rattle.pv_disk_model.specs.Size.{Contents}
use Rattle.pv_format.specs.Journal.{framed, records_of, AreShort, IsCut}
use Rattle.pv_law_checkpoints.specs.Roots.{start, fields_of, gate_at, place_at, size_at, IsInForce}

-- The block of these contents: each with its length before it, one after another.
abbrev pub block_of : Contents → List ℕ
block_of contents = flat_map framed contents

-- The greatest place of a block: 2 to the 36th power.
abbrev pub greatest_place : ℕ
greatest_place = 68719476736

-- The bytes begin as a log in two areas does, and have both roots and one byte more.
pub record Starts (bytes : List ℕ) : Type 0 where
  pub begins : take 8 bytes ≡ start
  pub long : 59 ≤ length bytes

-- The block of the root at this place lies behind the roots and in range, has a byte behind it, and is that of these contents.
pub record HasBlock (bytes : List ℕ) (at : ℕ) (packed : Contents) : Type 0 where
  pub behind_roots : 58 ≤ place_at bytes at
  pub in_range : place_at bytes at ≤ greatest_place
  pub ends : place_at bytes at + size_at bytes at < length bytes
  pub short : AreShort packed
  pub is : take (size_at bytes at) (drop (place_at bytes at) bytes) ≡ block_of packed

-- What follows the block of the root at this place: the first gate, and whatever comes after it.
abbrev pub behind_block : List ℕ → ℕ → List ℕ
behind_block bytes at = drop (place_at bytes at + size_at bytes at) bytes

-- The root at this place is in force. Its block has the first of these contents, and behind it come records of the others and a closed gate.
pub record IsLog (at : ℕ) (packed later : Contents) (bytes : List ℕ) : Type 0 where
  pub starts : Starts bytes
  pub in_force : IsInForce bytes at
  pub block : HasBlock bytes at packed
  pub short : AreShort later
  pub gate : ℕ
  pub rest : List ℕ
  pub closed : gate ≢ 1
  pub is : behind_block bytes at ≡ records_of later ++ gate ∷ rest

-- Where these records behind the block of the root at this place end: at the closed gate of the area.
abbrev pub end_at : List ℕ → ℕ → Contents → ℕ
end_at bytes at later = place_at bytes at + size_at bytes at + length (records_of later)

-- The bytes are a log in two areas with these contents.
pub record IsTwoAreas (contents : Contents) (bytes : List ℕ) : Type 0 where
  pub at : ℕ
  pub packed : Contents
  pub later : Contents
  pub log : IsLog at packed later bytes
  pub is : contents ≡ packed ++ later

-- Of the first 8 bytes this is the first that is missing or isn't as it is to be.
pub record HasOtherStart (bytes : List ℕ) (place : ℕ) : Type 0 where
  pub within : place < 8
  pub before : take place bytes ≡ take place start
  pub reached : place ≤ length bytes
  pub wrong : (length bytes ≡ place) ⊎ (slice_index bytes place ≢ slice_index start place)

-- The bytes end before both roots and one byte more. This is their length.
pub record HasNoRoots (bytes : List ℕ) (place : ℕ) : Type 0 where
  pub begins : take 8 bytes ≡ start
  pub few : length bytes < 59
  pub place_is : place ≡ length bytes

-- Neither root is open.
pub record HasNoOpenRoot (bytes : List ℕ) (place : ℕ) : Type 0 where
  pub starts : Starts bytes
  pub first : gate_at bytes 8 ≢ 1
  pub second : gate_at bytes 33 ≢ 1
  pub place_is : place ≡ 8

-- The root in force has no block: its place is out of range, the block or the byte behind it is past the end, or lengths don't fill it. It shows where that root
-- stands.
pub record HasNoBlock (bytes : List ℕ) (place : ℕ) : Type 0 where
  pub starts : Starts bytes
  pub at : ℕ
  pub in_force : IsInForce bytes at
  pub none : (packed : Contents) → HasBlock bytes at packed → ⊥
  pub place_is : place ≡ at

-- Behind the block of the root in force come whole records and then an open gate, at this place, and what follows it is cut.
pub record EndsCut (bytes : List ℕ) (place : ℕ) : Type 0 where
  pub starts : Starts bytes
  pub at : ℕ
  pub in_force : IsInForce bytes at
  pub packed : Contents
  pub block : HasBlock bytes at packed
  pub later : Contents
  pub short : AreShort later
  pub rest : List ℕ
  pub is : behind_block bytes at ≡ records_of later ++ 1 ∷ rest
  pub cut : IsCut rest
  pub place_is : place ≡ end_at bytes at later

-- No log in two areas, which shows at this place.
abbrev pub IsNotOurs : List ℕ → ℕ → Type 0
IsNotOurs bytes place = HasOtherStart bytes place ⊎ HasNoRoots bytes place ⊎ HasNoOpenRoot bytes place ⊎ HasNoBlock bytes place ⊎ EndsCut bytes place

-- What formatting makes: root 0 is open, with the number 1 and an empty block at 58, root 1 is 25 bytes of 0, and the gate behind them is closed.
unfoldable pub formatted : List ℕ
formatted = start ++ ((1 ∷ fields_of 1 58 0) ++ ((0 ∷ fields_of 0 0 0) ++ 0 ∷ []))
