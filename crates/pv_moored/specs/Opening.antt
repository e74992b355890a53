-- What opening a log on a disk in memory comes to.
use Rattle.std.specs.Prelude.{◌≡◌, Option, None}
use Rattle.pv_base.specs.declared.limits.TheConstants.{MAX_JOURNAL}
use Rattle.pv_disk.specs.MemLaws.{mem_model}
use Rattle.pv_disk.specs.declared.arms.Arm.{Arm}
use Rattle.pv_disk_model.specs.Size.{Contents}
use Rattle.pv_format.specs.Checkpoint.{Standing}
use Rattle.pv_ckpt.specs.Armed.{Holds, HoldsUp}
use Rattle.pv_ckpt.specs.CkptLog.{IsIntact}
use Rattle.pv_moored.specs.Reached.{reached, waits, fires}
use Rattle.pv_moored.specs.declared.moored.Opened.{Opened}
use Rattle.pv_moored.specs.declared.moored.Opened.TheVariants.{Up, Broke}

-- It is opened where what is armed isn't for the one sync that this makes, and what is armed is one nearer; and else that fires, and nothing is armed any more. The contents stay.
abbrev pub HasOpened : Contents → Standing → Option Arm → Opened → Type 0
HasOpened contents standing armed (Up log) =
    (rest : Option Arm) × (reached 1 armed ≡ waits rest) × IsIntact mem_model log × HoldsUp contents standing rest log × (log.limit ≡ MAX_JOURNAL)
HasOpened contents standing armed (Broke disk stops) =
    (arm : Arm) × (reached 1 armed ≡ fires arm) × (arm.stop ≡ stops) × Holds contents standing None None disk
