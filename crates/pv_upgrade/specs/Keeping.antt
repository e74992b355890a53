-- What an upgrade keeps of a disk at each moment: the records.
use Rattle.std.specs.Prelude.{◌≡◌, ◌⊎◌, ℕ, Bool, List, Some, ⊤}
use Rattle.pv_disk_model.specs.Calls.{DiskCall, len, read, make_room, write, sync}
use Rattle.pv_disk_model.specs.Disk.{LeavesOnly}
use Rattle.pv_disk_model.specs.DiskModel.{DiskModel}
use Rattle.pv_disk_model.specs.Size.{Contents}
use Rattle.pv_format.specs.Contents.{SpellRecords}
use Rattle.pv_format.specs.Record.{Record}
use Rattle.pv_law_checkpoints.specs.TwoAreas.{IsTwoAreas}

-- The bytes are a log in two areas whose contents are read as these records.
abbrev pub HoldsRecords : List Record → List ℕ → Type 0
HoldsRecords records bytes = (contents : Contents) × IsTwoAreas contents bytes × SpellRecords records contents

-- Both are logs, and are read as the same records.
abbrev pub HoldSameRecords : List ℕ → List ℕ → Type 0
HoldSameRecords was left = (records : List Record) × HoldsRecords records was × HoldsRecords records left

-- The call writes nothing.
abbrev pub IsNoWrite : DiskCall → Type 0
IsNoWrite len = ⊤
IsNoWrite (read place count) = ⊤
IsNoWrite sync = ⊤
IsNoWrite (make_room bytes writes) = ⊥
IsNoWrite (write place bytes) = ⊥

-- Some calls that write nothing were made, one after another. `goes` says of a call what it makes of a disk, and whether it succeeds.
pub data WritesNone {W : Type 0} (goes : W → DiskCall → Bool → W → Type 0) (old : W) : W → Type 0 where
  none : WritesNone goes old old
  one_more : (mid : W) (call : DiskCall) (ok : Bool) (new : W) → WritesNone goes old mid → IsNoWrite call → goes mid call ok new → WritesNone goes old new

module _ {V : Type 0} (D : DiskModel V) where
  -- At each moment a crash leaves what it might have left at first, or a log with the records that the disk had.
  abbrev pub KeepsRecords : V → V → Type 0
  KeepsRecords old new = (was : List ℕ) → D.content old ≡ Some was → LeavesOnly D old new (λ left. D.may_leave old left ⊎ HoldSameRecords was left)
