-- The calls of a disk and of a log, for those who follow each of them.
use Rattle.std.specs.Prelude.{◌≡◌, ◌⊎◌, ℕ, Bool, true, false, List, [], ◌∷◌, ⊤}

-- A call of a disk.
pub data DiskCall : Type 0 where
  len : DiskCall
  read : (place count : ℕ) → DiskCall
  make_room : (bytes writes : ℕ) → DiskCall
  write : (place : ℕ) (bytes : List ℕ) → DiskCall
  sync : DiskCall

-- It only reads.
abbrev pub IsRead : DiskCall → Type 0
IsRead len = ⊤
IsRead (read place count) = ⊤
IsRead _ = ⊥

-- Some calls that only read were made, one after another. `goes` is as below.
pub data OnlyReads {W : Type 0} (goes : W → DiskCall → Bool → W → Type 0) (old : W) : W → Type 0 where
  none : OnlyReads goes old old
  one_more : (mid : W) (call : DiskCall) (ok : Bool) (new : W) → OnlyReads goes old mid → IsRead call → goes mid call ok new → OnlyReads goes old new

-- A call of a log that may be answered by an error.
pub data LogCall : Type 0 where
  read_all : LogCall
  reserve : (content : ℕ) → LogCall
  append : (content : List ℕ) → LogCall

-- These calls are made in turn, and none after one that fails. `goes` says of a call what it makes of an object, and whether it succeeds.
abbrev pub Makes : {W Call : Type 0} → (W → Call → Bool → W → Type 0) → W → List Call → Bool → W → Type 0
Makes goes old [] ok new = (ok ≡ true) × (new ≡ old)
Makes {W = W} goes old (call ∷ calls) ok new =
    ((ok ≡ false) × goes old call false new) ⊎ ((mid : W) × goes old call true mid × Makes goes mid calls ok new)
