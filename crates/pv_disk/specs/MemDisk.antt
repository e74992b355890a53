-- What a disk in memory is, and what each call makes of it.
use Rattle.std.specs.Prelude.{◌≡◌, ℕ, ◌-◌, ◌==◌, nat_le, Bool, true, false, if◌then◌else◌, List, Option, Some, None, length}
use Rattle.pv_base.specs.declared.mode.Mode.{Mode}
use Rattle.pv_disk_model.specs.Calls.{DiskCall, len, read, make_room, write, sync}
use Rattle.pv_disk_model.specs.Disk.{overlaid}
use Rattle.pv_base.specs.Fault.{risen}
use Rattle.pv_disk.specs.MemImage.{ImageState, Moment, settled_at, written_at, left_by}
use Rattle.pv_disk.specs.declared.arms.Arm.{Arm}

-- Which write or sync fires, and whether the last one that fired was a stop; how many reads come before one that fails; how many writes
-- and syncs were called.
pub record ArmsState : Type 0 where
  pub armed : Option Arm
  pub fired : Option Bool
  pub fail_read : Option ℕ
  pub calls : ℕ

-- A memory disk: what it holds, which calls fail, and how many have.
pub record MemState : Type 0 where
  pub image : ImageState
  pub arms : ArmsState
  pub faults : ℕ

-- How the next write or sync fires, if it does.
abbrev pub firing : Option Arm → Option Mode
firing None = None
firing (Some arm) = if nat_le arm.left 1 then Some arm.mode else None

abbrev pub armed_after : Option Arm → Option Arm
armed_after None = None
armed_after (Some arm) = if nat_le arm.left 1 then None else Some (record arm { left = arm.left - 1 })

abbrev pub fired_after : Option Arm → Option Bool → Option Bool
fired_after None fired = fired
fired_after (Some arm) fired = if nat_le arm.left 1 then Some arm.stop else fired

-- After a write or a sync was called.
abbrev pub counted : ArmsState → ArmsState
counted arms = record arms { armed = armed_after arms.armed; fired = fired_after arms.armed arms.fired; calls = risen arms.calls }

-- How many reads still come before one that fails, after one that didn't.
abbrev pub fail_read_after : Option ℕ → Option ℕ
fail_read_after None = None
fail_read_after (Some n) = if n == 0 then None else Some (n - 1)

-- Whether the next read fails.
abbrev pub read_fails : Option ℕ → Bool
read_fails None = false
read_fails (Some n) = n == 0

-- The disk after a read.
abbrev pub after_read : MemState → MemState
after_read disk = record disk {
  arms = record disk.arms { fail_read = fail_read_after disk.arms.fail_read };
  faults = if read_fails disk.arms.fail_read then risen disk.faults else disk.faults;
}

-- A disk with this content, at this moment, with these arms and faults. What was before and what room there is isn't said.
pub record IsNow (content : List ℕ) (now : Moment) (arms : ArmsState) (faults : ℕ) (disk : MemState) : Type 0 where
  pub content_is : disk.image.content ≡ content
  pub now_is : disk.image.now ≡ now
  pub arms_are : disk.arms ≡ arms
  pub faults_are : disk.faults ≡ faults

-- A write or a sync that would make this content, and this the moment, unless it fires.
abbrev pub Changes : MemState → Option Mode → List ℕ → Moment → Moment → Bool → MemState → Type 0
Changes old None content before after ok new = (ok ≡ true) × IsNow content after (counted old.arms) old.faults new
Changes old (Some mode) content before after ok new =
    (ok ≡ false) × IsNow (left_by mode before content) (settled_at (left_by mode before content)) (counted old.arms) (risen old.faults) new

-- What a call makes of a memory disk.
abbrev pub MemGoes : MemState → DiskCall → Bool → MemState → Type 0
MemGoes old len ok new = (ok ≡ true) × (new ≡ old)
MemGoes old (read place count) ok new = (ok ≡ (if read_fails old.arms.fail_read then false else true)) × (new ≡ after_read old)
MemGoes old (make_room bytes writes) ok new = IsNow old.image.content old.image.now old.arms old.faults new
MemGoes old (write place bytes) ok new =
    let after = written_at old.image.now place (length bytes) in
    Changes old (firing old.arms.armed) (overlaid old.image.content place bytes) after after ok new
MemGoes old sync ok new =
    Changes old (firing old.arms.armed) old.image.content old.image.now (settled_at old.image.content) ok new
