-- What the calls of a disk do, and what a crash at any moment of them leaves.
use Rattle.std.specs.Prelude.{◌≡◌, ◌⊎◌, ℕ, ◌+◌, ◌≤◌, max, List, ◌++◌, Some, is_some, length, take, drop, Result, Ok, Err, OnOk}
use Rattle.std.specs.Io.KnownBytes.{Appends, Keeps}
use Rattle.pv_base.specs.Fault.{FaultCounted}
use Rattle.pv_base.specs.declared.failure.Failed.{Failed as Fault}
use Rattle.pv_disk_model.specs.DiskModel.{DiskModel}

-- A content with these bytes at this place, in place of what stood there, and longer where they end past its end.
abbrev pub overlaid : List ℕ → ℕ → List ℕ → List ℕ
overlaid content place bytes = take place content ++ (bytes ++ drop (place + length bytes) content)

-- After a write of so many bytes that a crash cuts short: any bytes in the range and past the old end, the same elsewhere.
pub record Torn (place count : ℕ) (old new : List ℕ) : Type 0 where
  pub before : take place new ≡ take place old
  pub after : drop (place + count) new ≡ drop (place + count) old
  pub no_shorter : length old ≤ length new
  pub no_longer : length new ≤ max (length old) (place + count)

-- A crash leaves this and nothing else.
abbrev pub Only : List ℕ → (List ℕ → Type 0) → Type 0
Only content outcomes = (left : List ℕ) → outcomes left → left ≡ content

module _ {W : Type 0} (M : DiskModel W) where
  -- A crash at any moment since old leaves what has P.
  pub record LeavesOnly (old new : W) (P : List ℕ → Type 0) : Type 0 where
    pub later : M.moment old ≤ M.moment new
    pub each : (left : List ℕ) → M.left_since new (M.moment old) left → P left
    -- for what began earlier: what might have been left then is no less and no more
    pub before : (t : ℕ) (left : List ℕ) → t ≤ M.moment old → M.left_since new t left → M.left_since old t left ⊎ P left
    pub keeps : (t : ℕ) (left : List ℕ) → t ≤ M.moment old → M.left_since old t left → M.left_since new t left

  -- What a crash may leave of a write: a content that it might have left before, torn in the range.
  abbrev pub LeftTorn : W → ℕ → ℕ → List ℕ → Type 0
  LeftTorn old place count left = (from : List ℕ) × M.may_leave old from × Torn place count from left

  -- These bytes are added to what the reads have given.
  abbrev pub Gives : W → W → List ℕ → Type 0
  Gives old new bytes = Appends (M.given old) (M.given new) bytes

  -- Nothing is added to what the reads have given.
  abbrev pub GivesNothing : W → W → Type 0
  GivesNothing old new = Keeps (M.given old) (M.given new)

  -- A read that succeeds adds its bytes to what the reads have given, and one that fails nothing.
  abbrev pub GivesBy : {X : Type 0} → W → W → List ℕ → Result X Fault → Type 0
  GivesBy old new bytes (Ok _) = Gives old new bytes
  GivesBy old new bytes (Err _) = GivesNothing old new

  -- A call that reads: the content stays. After a fault it is one of those that a crash might have left. The count of faults stays unless the call fails.
  pub record Observes {X : Type 0} (old new : W) (result : Result X Fault) : Type 0 where
    pub content : OnOk result (M.content new ≡ M.content old)
    pub known : is_some (M.content new) ≡ is_some (M.content old)
    pub any_moment : LeavesOnly old new (M.may_leave old)
    pub room : M.room old ≤ M.room new
    pub writes : M.writes old ≤ M.writes new
    pub fault : FaultCounted (M.faults old) (M.faults new) result
    pub uncounted : OnOk result (M.faults new ≡ M.faults old)

  -- A write: the content is the old one with these bytes. After a fault it is one of those that a crash might have left. The count of faults stays unless the call fails.
  pub record Writes {X : Type 0} (old new : W) (place : ℕ) (bytes : List ℕ) (result : Result X Fault) : Type 0 where
    pub content : OnOk result ((was : List ℕ) → M.content old ≡ Some was → M.content new ≡ Some (overlaid was place bytes))
    pub known : is_some (M.content new) ≡ is_some (M.content old)
    pub any_moment : LeavesOnly old new (LeftTorn old place (length bytes))
    pub room : M.room old ≤ M.room new + length bytes
    pub writes : M.writes old ≤ M.writes new + 1
    pub fault : FaultCounted (M.faults old) (M.faults new) result
    pub uncounted : OnOk result (M.faults new ≡ M.faults old)

  -- A sync: the content stays, and from now on a crash leaves it alone. A fault is as that of a read.
  pub record Syncs {X : Type 0} (old new : W) (result : Result X Fault) : Type 0 where
    pub observes : Observes old new result
    pub durable : OnOk result ((held : List ℕ) → M.content old ≡ Some held → Only held (M.may_leave new))

  -- Making room changes room alone. A fault is as that of a read.
  pub record MakesRoom (old new : W) : Type 0 where
    pub known : is_some (M.content new) ≡ is_some (M.content old)
    pub any_moment : LeavesOnly old new (M.may_leave old)
    pub room : M.room old ≤ M.room new
    pub writes : M.writes old ≤ M.writes new
    pub faults : M.faults old ≤ M.faults new
