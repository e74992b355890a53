-- What becomes of a fault that is armed at a disk in memory, and what the calls of a log come to by that.
use Rattle.std.specs.Prelude.{◌≡◌, ℕ, Bool, true, false, nat_lt, if◌then◌else◌, List, [], ◌∷◌, ◌++◌, Option, Some, None}
use Rattle.pv_disk.specs.MemDisk.{MemState}
use Rattle.pv_disk.specs.declared.arms.Arm.{Arm}
use Rattle.pv_disk_model.specs.Size.{Contents}
use Rattle.pv_format.specs.Checkpoint.{Standing}
use Rattle.pv_journal.specs.Armed.{contents_left}
use Rattle.pv_law_calls.specs.Armed.{nearer}
use Rattle.pv_ckpt.specs.Armed.{Holds}

-- It is armed still, for so many writes and syncs less, or it fires.
pub data Reached : Type 0 where
  waits : (rest : Option Arm) → Reached
  fires : (arm : Arm) → Reached

-- what becomes of it in so many writes and syncs
abbrev pub reached : ℕ → Option Arm → Reached
reached calls None = waits None
reached calls (Some arm) = if nat_lt calls arm.left then waits (Some (nearer calls arm)) else fires arm

module _ (contents : Contents) (standing : Standing) where
  -- What an append comes to, and whether it succeeds, by what becomes of what is armed. How the log stands stays.
  abbrev pub AppendsBy : List ℕ → Bool → MemState → Reached → Type 0
  AppendsBy content ok disk (waits rest) = (ok ≡ true) × Holds (contents ++ content ∷ []) standing rest None disk
  AppendsBy content ok disk (fires arm) = (ok ≡ false) × Holds (contents_left contents content arm) standing None (Some arm.stop) disk

  -- What the sync of an opening comes to.
  abbrev pub SyncsBy : Bool → MemState → Reached → Type 0
  SyncsBy ok disk (waits rest) = (ok ≡ true) × Holds contents standing rest None disk
  SyncsBy ok disk (fires arm) = (ok ≡ false) × Holds contents standing None (Some arm.stop) disk
