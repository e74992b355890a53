-- What a write and the sync after it do to a disk.
use Rattle.std.specs.Prelude.{◌≡◌, ℕ, ◌+◌, ◌≤◌, List, [], ◌∷◌, Some, is_some, length, Result, OnOk}
use Rattle.pv_base.specs.Fault.{FaultCounted}
use Rattle.pv_base.specs.declared.failure.Failed.{Failed as Fault}
use Rattle.pv_disk_model.specs.Calls.{DiskCall, write, sync}
use Rattle.pv_disk_model.specs.DiskModel.{DiskModel}
use Rattle.pv_disk_model.specs.Disk.{overlaid, Only, LeavesOnly, LeftTorn}

-- Both of them, as calls.
abbrev pub synced_write : ℕ → List ℕ → List DiskCall
synced_write place bytes = write place bytes ∷ sync ∷ []

module _ {D : Type 0} (M : DiskModel D) where
  -- At each moment a crash leaves what it might have left before, torn in the range. Where both calls succeeded the bytes are there, and each crash from now on leaves them.
  pub record WritesSynced {X : Type 0} (old new : D) (place : ℕ) (bytes : List ℕ) (result : Result X Fault) : Type 0 where
    pub content : OnOk result ((was : List ℕ) → M.content old ≡ Some was → M.content new ≡ Some (overlaid was place bytes))
    pub durable : OnOk result ((was : List ℕ) → M.content old ≡ Some was → Only (overlaid was place bytes) (M.may_leave new))
    pub known : is_some (M.content new) ≡ is_some (M.content old)
    pub any_moment : LeavesOnly M old new (LeftTorn M old place (length bytes))
    pub room : M.room old ≤ M.room new + length bytes
    pub writes : M.writes old ≤ M.writes new + 1
    pub fault : FaultCounted (M.faults old) (M.faults new) result
    pub uncounted : OnOk result (M.faults new ≡ M.faults old)
