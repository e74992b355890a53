-- What the calls of a log in two areas come to on a disk in memory, where a fault may be armed.
use Rattle.std.specs.Prelude.{◌≡◌, ℕ, nat_lt, Bool, true, false, MatchBool, List, [], ◌∷◌, ◌++◌, Option, Some, None}
use Rattle.pv_disk.specs.MemDisk.{MemState}
use Rattle.pv_disk.specs.MemImage.{settled_at}
use Rattle.pv_disk.specs.declared.arms.Arm.{Arm}
use Rattle.pv_disk_model.specs.Size.{Contents}
use Rattle.pv_format.specs.Checkpoint.{Standing, done, calls_of, part_of, left_by}
use Rattle.pv_journal.specs.Armed.{contents_left}
use Rattle.pv_law_calls.specs.Armed.{nearer}
use Rattle.pv_law_checkpoints.specs.Stages.{Stands}
use Rattle.pv_ckpt.specs.CkptLog.{IsLogOf}
use Rattle.pv_ckpt.specs.declared.ckpt_log.CkptLog.{CkptLog}

-- The disk holds a log with these contents, which stands so, all of it synced. This is armed, this has fired, and no read is to fail.
pub record Holds (contents : Contents) (standing : Standing) (arm : Option Arm) (kind : Option Bool) (disk : MemState) : Type 0 where
  pub stands : Stands contents standing disk.image.content
  pub settled : disk.image.now ≡ settled_at disk.image.content
  pub armed : disk.arms.armed ≡ arm
  pub fired : disk.arms.fired ≡ kind
  pub reads : disk.arms.fail_read ≡ None

-- The log isn't down, and its disk is that log, by its root, its end and its length. It has these contents and stands so. On its disk this is armed, and nothing has fired.
pub record HoldsUp (contents : Contents) (standing : Standing) (armed : Option Arm) (log : CkptLog MemState) : Type 0 where
  pub up : log.down ≡ false
  pub is : IsLogOf log.disk.image.content log
  pub disk : Holds contents standing armed None log.disk

-- What so many writes and syncs come to, and whether they succeed: the disk holds the contents that they make, which stand so, and what was armed is nearer; or it fires in
-- one of them, is armed no more, and the disk holds what that leaves.
abbrev pub ComesTo : ℕ → Option Arm → (made : Contents × Standing) → (left : Arm → Contents × Standing) → Bool → MemState → Type 0
ComesTo calls None made left ok disk = (ok ≡ true) × Holds made.0 made.1 None None disk
ComesTo calls (Some arm) made left ok disk =
    MatchBool (nat_lt calls arm.left) ((ok ≡ true) × Holds made.0 made.1 (Some (nearer calls arm)) None disk)
    ((ok ≡ false) × Holds (left arm).0 (left arm).1 None (Some arm.stop) disk)

-- What an append comes to: a write, a sync, a write and a sync. How the log stands stays.
abbrev pub AppendsArmed : Contents → Standing → List ℕ → Option Arm → Bool → MemState → Type 0
AppendsArmed contents standing content armed ok disk =
    ComesTo 4 armed (contents ++ content ∷ [], standing) (λ arm. (contents_left contents content arm, standing)) ok disk

-- What a sync of a disk comes to that is synced already.
abbrev pub SyncsArmed : Contents → Standing → Option Arm → Bool → MemState → Type 0
SyncsArmed contents standing armed ok disk = ComesTo 1 armed (contents, standing) (λ arm. (contents, standing)) ok disk

-- What a checkpoint comes to, by the table. The contents stay.
abbrev pub PacksArmed : Contents → Standing → Option Arm → Bool → MemState → Type 0
PacksArmed contents standing armed ok disk =
    ComesTo (calls_of standing.other_open) armed (contents, done standing)
    (λ arm. (contents, left_by (part_of standing.other_open arm.left) arm.mode standing)) ok disk
