-- What is found on the disk of a site, as the code holds it.
use Rattle.std.specs.Prelude.{◌≡◌, ◌≢◌, ℕ, ◌≤◌, List, Some, Result, Ok, Err, Vec, ⊤}
use Rattle.std.specs.declared.alloc.Global.{Global}
use Rattle.pv_base.specs.Fault.{Rose}
use Rattle.pv_disk.specs.declared.disk_error.LookError.{LookError}
use Rattle.pv_disk.specs.declared.disk_error.LookError.TheVariants.{Failed, NotOurs, NoMemory}
use Rattle.pv_disk_model.specs.Disk.{LeavesOnly, Only}
use Rattle.pv_disk_model.specs.DiskModel.{DiskModel}
use Rattle.pv_disk_model.specs.Size.{size_of}
use Rattle.pv_law_checkpoints.specs.TwoAreas.{IsNotOurs, IsTwoAreas}
use Rattle.pv_replay.specs.Values.{contents_of}
use Rattle.pv_upgrade.specs.Keeping.{WritesNone}
use Rattle.pv_upgrade.specs.Renewing.{Renews}
use Rattle.pv_upgrade.specs.Upgrading.{IsUpgradeOf}
use Rattle.pv_upgrade.specs.declared.find.Found.{Found}
use Rattle.pv_upgrade.specs.declared.find.Found.TheVariants.{Done, Old}
use Rattle.pv_upgrade.specs.declared.told.Upgrade.TheVariants as told

-- There is something to do only where old spellings were replaced, and a log with the new contents is within the limit.
abbrev pub IsQuiet : (limit : ℕ) → Found → Type 0
IsQuiet limit (Done (told.Upgraded count)) = count ≡ 0
IsQuiet limit (Done told.Failed) = ⊥
IsQuiet limit (Done _) = ⊤
IsQuiet limit (Old renewed) = (renewed.count ≢ 0) × (size_of (contents_of renewed.contents.items) ≤ limit)

-- It is what there is to do where the log is these bytes.
abbrev pub IsFound : (limit : ℕ) → List ℕ → Found → Type 0
IsFound limit was (Done told) = IsUpgradeOf limit was was told
IsFound limit was (Old renewed) = Renews was (contents_of renewed.contents.items) renewed.count

module _ {V : Type 0} (D : DiskModel V) where
  -- The disk reads what it did, and from now on a crash leaves that alone. Nothing was written, and nothing failed. At each moment a crash left what it might have left before.
  pub record Settles (old new : V) : Type 0 where
    pub any_moment : LeavesOnly D old new (D.may_leave old)
    pub content : D.content new ≡ D.content old
    pub durable : (held : List ℕ) → D.content new ≡ Some held → Only held (D.may_leave new)
    pub writes : WritesNone D.goes old new
    pub faults : D.faults new ≡ D.faults old

  -- The contents are those of the log that the disk holds, or it holds none.
  abbrev pub Finds : V → V → Result (Vec (Vec ℕ Global) Global) LookError → Type 0
  Finds old new (Ok contents) = Settles old new × ((was : List ℕ) → D.content old ≡ Some was → IsTwoAreas (contents_of contents.items) was)
  Finds old new (Err (NotOurs place)) = Settles old new × ((was : List ℕ) → D.content old ≡ Some was → IsNotOurs was place)
  Finds old new (Err NoMemory) = Settles old new
  Finds old new (Err Failed) = LeavesOnly D old new (D.may_leave old) × Rose (D.faults old) (D.faults new)
