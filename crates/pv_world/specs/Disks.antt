-- What the disk of a site holds.
use Rattle.std.specs.Prelude.{ℕ, Bool, List, [], ◌∷◌, Option, ⊤}
use Rattle.std.specs.Option.{option_map}
use Rattle.pv_format.specs.Checkpoint.{Standing}
use Rattle.pv_disk.specs.MemDisk.{MemState}
use Rattle.pv_disk.specs.declared.arms.Arm.{Arm}
use Rattle.pv_format.specs.Contents.{AreWritten}
use Rattle.pv_format.specs.Record.{Record}
use Rattle.pv_ckpt.specs.Armed.{Holds}
use Rattle.pv_disk_model.specs.Size.{Contents}
use Rattle.pv_law_checkpoints.specs.Stages.{Stands}
use Rattle.pv_protocol.specs.State as model

-- an armed fault as the disk has it
abbrev pub armed_as : model.Arm → Arm
armed_as arm = record { left = arm.call; mode = arm.mode; stop = arm.stops }

-- The disk holds a log of these records, which stands so, all of it synced. This is armed, this has fired, and no read is to fail.
pub record Spells (records : List Record) (standing : Standing) (armed : Option model.Arm) (fired : Option Bool) (disk : MemState) : Type 0 where
  pub contents : Contents
  pub spelled : AreWritten records contents
  pub holds : Holds contents standing (option_map armed_as armed) fired disk

-- The bytes are the log of this site: of its records, and it stands so as the site says.
abbrev pub IsLogOfSite : model.Site → List ℕ → Type 0
IsLogOfSite site bytes = (contents : Contents) × Stands contents site.standing bytes × AreWritten site.records contents

-- There is a disk for each of these sites, in their order, and it holds the log of the site.
abbrev pub HoldSites : List MemState → List model.Site → Type 0
HoldSites [] [] = ⊤
HoldSites (disk ∷ disks) (site ∷ sites) = IsLogOfSite site disk.image.content × HoldSites disks sites
HoldSites _ _ = ⊥
