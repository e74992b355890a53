-- A site on its log, between the sync and the append of its start.
use Rattle.std.specs.Prelude.{◌≡◌, ℕ, false, Option, None}
use Rattle.pv_base.specs.Catalog.{Declared}
use Rattle.pv_disk.specs.MemDisk.{MemState}
use Rattle.pv_disk.specs.MemLaws.{mem_model}
use Rattle.pv_ckpt.specs.CkptLog.{IsIntact}
use Rattle.pv_ckpt.specs.declared.ckpt_log.CkptLog.{CkptLog}
use Rattle.pv_law_events.specs.Replays.{CanBeReplayed}
use Rattle.pv_protocol.specs.Arms.{reached, waits}
use Rattle.pv_protocol.specs.State as model
use Rattle.pv_protocol.specs.State.{Arm}
use Rattle.pv_site.specs.Recovered.{Remains}
use Rattle.pv_site.specs.SiteState.{setup_of}
use Rattle.pv_world.specs.Cells.{KeepsRecords, site_after_start}
use Rattle.pv_world.specs.Disks.{Spells}

-- The log is that of the site of this number, and just opened. It holds the site's records, of which is what outlived its memory. The
-- sync that came first didn't fire, and an armed fault is nearer by it.
pub record IsSynced (declared : Declared) (n : ℕ) (log : CkptLog MemState) (left : Remains) (is : model.Site) : Type 0 where
  pub keeps : KeepsRecords declared n is.records left
  pub intact : IsIntact mem_model log
  pub up : log.down ≡ false
  pub limit : log.limit ≡ declared.journal
  pub armed : Option Arm
  pub waits : reached 1 is.arm ≡ waits armed
  pub disk : Spells is.records is.standing armed None log.disk

-- The log is that of the site of this number. It can read its records anew, now and after the start.
pub record CanGoOn (declared : Declared) (n : ℕ) (log : CkptLog MemState) (left : Remains) : Type 0 where
  pub is : model.Site
  pub synced : IsSynced declared n log left is
  pub replayable : CanBeReplayed (setup_of declared) n is.records
  pub after : CanBeReplayed (setup_of declared) n (site_after_start declared n is None).records
