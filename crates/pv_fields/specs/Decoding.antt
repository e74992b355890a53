-- What reading one part of the bytes comes to, where a layout says which part is to come.
use Rattle.std.specs.Prelude.{ℕ, Bool, List, Option, IfSome}
use Rattle.pv_bytes.specs.Reading.{Rest, HasTaken}
use Rattle.pv_format.specs.FirstFault.{Fault, HasFault}
use Rattle.pv_format.specs.Layout.{Layout, number_then}

-- Bytes were taken that are what is asked for.
pub record IsTaken (Is : List ℕ → Type 0) (old new : Rest) : Type 0 where
  pub front : List ℕ
  pub is : Is front
  pub taken : HasTaken front old new

-- What is wrong with the bytes after a part is wrong with the bytes from its beginning on, by the layout that has the part first.
abbrev pub KeepsFaults : (Layout → Layout) → Rest → Rest → Type 0
KeepsFaults layout old new =
    (next : Layout) (fault : Fault) → HasFault next new.place new.left fault → HasFault (layout next) old.place old.left fault

-- The part was read.
pub record Passes (Is : List ℕ → Type 0) (layout : Layout → Layout) (old new : Rest) : Type 0 where
  pub taken : IsTaken Is old new
  pub later : KeepsFaults layout old new

-- A number was read, and the layout may go on by what it is.
pub record PassesNumber (Is : List ℕ → Type 0) (size : ℕ) (allows : ℕ → Bool) (value : ℕ) (old new : Rest) : Type 0 where
  pub taken : IsTaken Is old new
  pub later : (next : ℕ → Layout) (fault : Fault) → HasFault (next value) new.place new.left fault
      → HasFault (number_then size allows next) old.place old.left fault

-- The part wasn't read. Where there was memory, the fault is the first of the bytes, whatever is to come after the part.
abbrev pub Stops : (Layout → Layout) → Rest → Option Fault → Type 0
Stops layout old found = IfSome found (λ fault. (next : Layout) → HasFault (layout next) old.place old.left fault)

-- The number wasn't read, likewise.
abbrev pub StopsNumber : ℕ → (ℕ → Bool) → Rest → Option Fault → Type 0
StopsNumber size allows old found =
    IfSome found (λ fault. (next : ℕ → Layout) → HasFault (number_then size allows next) old.place old.left fault)
