-- What making room on a disk does, by its answer.
use Rattle.std.specs.Prelude.{◌≡◌, ℕ, ◌≤◌, Result, Ok, Err}
use Rattle.pv_base.specs.Fault.{Rose}
use Rattle.pv_disk_model.specs.DiskModel.{DiskModel}
use Rattle.pv_disk_model.specs.Disk.{MakesRoom}
use Rattle.pv_disk.specs.declared.disk_error.DiskError.{DiskError}
use Rattle.pv_disk.specs.declared.disk_error.DiskError.TheVariants.{Failed, NoMemory}

module _ {W : Type 0} (M : DiskModel W) where
  -- What making room for so many bytes in so many writes does, by its answer.
  abbrev pub ReservesOnDisk : {X : Type 0} → W → W → ℕ → ℕ → Result X DiskError → Type 0
  ReservesOnDisk old new bytes writes (Ok _) = MakesRoom M old new × (M.content new ≡ M.content old) × (bytes ≤ M.room new) × (writes ≤ M.writes new)
      × (M.faults new ≡ M.faults old)
  ReservesOnDisk old new bytes writes (Err Failed) = MakesRoom M old new × Rose (M.faults old) (M.faults new)
  ReservesOnDisk old new bytes writes (Err NoMemory) = MakesRoom M old new × (M.content new ≡ M.content old) × (M.faults new ≡ M.faults old)
