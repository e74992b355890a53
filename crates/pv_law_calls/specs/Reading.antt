-- How calls that only read leave a disk, and what they give.
use Rattle.std.specs.Prelude.{◌≡◌, ℕ, ◌≤◌, List, is_some, Result, Ok, Err}
use Rattle.pv_base.specs.Fault.{Rose}
use Rattle.pv_disk_model.specs.Calls.{OnlyReads}
use Rattle.pv_disk_model.specs.DiskModel.{DiskModel}
use Rattle.pv_disk_model.specs.Disk.{Gives, LeavesOnly}
use Rattle.pv_disk.specs.declared.disk_error.LookError.{LookError}
use Rattle.pv_disk.specs.declared.disk_error.LookError.TheVariants.{Failed, NotOurs, NoMemory}

module _ {D : Type 0} (M : DiskModel D) where
  -- Calls that only read left the disk so: a crash leaves what it might have left before.
  pub record Looks (old new : D) : Type 0 where
    pub known : is_some (M.content new) ≡ is_some (M.content old)
    pub any_moment : LeavesOnly M old new (M.may_leave old)
    pub room : M.room old ≤ M.room new
    pub writes : M.writes old ≤ M.writes new
    pub faults : M.faults old ≤ M.faults new
    pub reads : OnlyReads M.goes old new

  -- And the content and the count of faults stay.
  abbrev pub LooksOn : D → D → Type 0
  LooksOn old new = Looks old new × (M.content new ≡ M.content old) × (M.faults new ≡ M.faults old)

  -- A reading, by its answer: the content stays, and so does the count of faults. Where the disk failed the content is one that a crash might have left, and the
  -- count rose.
  abbrev pub LooksBy : {X : Type 0} → D → D → Result X LookError → Type 0
  LooksBy old new (Ok _) = LooksOn old new
  LooksBy old new (Err Failed) = Looks old new × Rose (M.faults old) (M.faults new)
  LooksBy old new (Err (NotOurs _)) = LooksOn old new
  LooksBy old new (Err NoMemory) = LooksOn old new

  -- What the reads gave since then, one after another, is such a list of bytes.
  abbrev pub Gave : D → D → (List ℕ → Type 0) → Type 0
  Gave old new P = (read : List ℕ) × Gives M old new read × P read
