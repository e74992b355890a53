-- The two roots of a log in two areas: where they stand, what they say, and which of them is in force.
use Rattle.std.specs.Prelude.{◌≡◌, ◌⊎◌, ℕ, ◌+◌, ◌-◌, ◌<◌, List, ◌++◌, take, drop, slice_index, codes}
use Rattle.pv_base.specs.BigEndian.{big_endian, number_of}

-- What a log in two areas begins with.
abbrev pub start : List ℕ
start = codes "PVCKPT01"

-- The roots stand at 8 and 33. This is where the other one stands.
abbrev pub other_root : ℕ → ℕ
other_root at = 41 - at

-- What follows the gate of a root, 24 bytes: the number, and the place and the size of its block.
abbrev pub fields_of : (number place size : ℕ) → List ℕ
fields_of number place size = big_endian 8 number ++ (big_endian 8 place ++ big_endian 8 size)

-- The gate of the root that stands here.
abbrev pub gate_at : List ℕ → ℕ → ℕ
gate_at bytes at = slice_index bytes at

abbrev pub number_at : List ℕ → ℕ → ℕ
number_at bytes at = number_of (take 8 (drop (at + 1) bytes))

abbrev pub place_at : List ℕ → ℕ → ℕ
place_at bytes at = number_of (take 8 (drop (at + 9) bytes))

abbrev pub size_at : List ℕ → ℕ → ℕ
size_at bytes at = number_of (take 8 (drop (at + 17) bytes))

-- A root stands here.
abbrev pub IsRoot : ℕ → Type 0
IsRoot at = (at ≡ 8) ⊎ (at ≡ 33)

-- The root that stands here is open, and if the other one is open too, that one's number is less, or the same where this is the first.
pub record IsInForce (bytes : List ℕ) (at : ℕ) : Type 0 where
  pub root : IsRoot at
  pub opened : gate_at bytes at ≡ 1
  pub greater : gate_at bytes (other_root at) ≡ 1
      → (number_at bytes (other_root at) < number_at bytes at) ⊎ ((number_at bytes (other_root at) ≡ number_at bytes at) × (at ≡ 8))

-- A root reads the same in these bytes as in those.
pub record IsSameRoot (old new : List ℕ) (at : ℕ) : Type 0 where
  pub gate : gate_at new at ≡ gate_at old at
  pub number : number_at new at ≡ number_at old at
  pub place : place_at new at ≡ place_at old at
  pub size : size_at new at ≡ size_at old at
