-- Reading from the front of bytes.
use Rattle.std.specs.Prelude.{◌≡◌, ℕ, ◌+◌, ◌<◌, List, ◌++◌, length}
use Rattle.pv_bytes.specs.declared.short.Short.{Short}

-- The bytes that are left to read, and how many were read before them.
pub record Rest : Type 0 where
  pub place : ℕ
  pub left : List ℕ

-- These bytes were taken: they stood at the front.
pub record HasTaken (front : List ℕ) (old new : Rest) : Type 0 where
  pub bytes : old.left ≡ front ++ new.left
  pub place : new.place ≡ old.place + length front

-- Fewer bytes are left than so many, the place is the one where they begin, and nothing was taken.
pub record IsShort (size : ℕ) (old new : Rest) (short : Short) : Type 0 where
  pub fewer : length old.left < size
  pub place : short.0 ≡ old.place
  pub stays : new ≡ old
