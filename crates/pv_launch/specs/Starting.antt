-- What starting a site on an empty disk does, by its answer.
use Rattle.std.specs.Prelude.{◌≡◌, ◌⊎◌, ℕ, ◌≤◌, true, false, List, Some, None, Result, Ok, Err, ⊤}
use Rattle.pv_base.specs.Catalog.{Declared}
use Rattle.pv_base.specs.Fault.{Rose}
use Rattle.pv_ckpt.specs.CkptModel.{ckpt_model}
use Rattle.pv_ckpt.specs.Opening as ckpt
use Rattle.pv_ckpt.specs.Opening.{Formats}
use Rattle.pv_ckpt.specs.declared.ckpt_log.CkptLog.{CkptLog}
use Rattle.pv_ckpt.specs.declared.open_ckpt.OpenCkpt.TheVariants as unopened
use Rattle.pv_disk_model.specs.Disk.{Only, Syncs}
use Rattle.pv_disk_model.specs.DiskModel.{DiskModel}
use Rattle.pv_law_checkpoints.specs.TwoAreas.{formatted}
use Rattle.pv_launch.specs.Work.{HasNoWork, StaysIdle}
use Rattle.pv_launch.specs.declared.not_started.NotStarted.{NotStarted}
use Rattle.pv_launch.specs.declared.not_started.NotStarted.TheVariants.{Failed, Misread, NoMemory}
use Rattle.pv_site.specs.Opens as sites
use Rattle.pv_site.specs.Opens.{HasOpened, log_in}
use Rattle.pv_site.specs.SiteState.{SiteState}
use Rattle.pv_site.specs.Steps.{IsReady}
use Rattle.pv_site.specs.declared.error.OpenError.{OpenError}
use Rattle.pv_site.specs.declared.error.OpenError.TheVariants as refused

-- The site isn't opened for what was read of its log.
abbrev pub IsForWhatWasRead : {W : Type 0} → OpenError W → Type 0
IsForWhatWasRead (refused.Failed log) = ⊥
IsForWhatWasRead (refused.NoMemory log) = ⊥
IsForWhatWasRead other = ⊤

-- The site, where nothing was found in its log, and else the disk.
abbrev pub FindsNothing : {D : Type 0} → SiteState (CkptLog D) → Result (SiteState (CkptLog D)) (NotStarted D) → Type 0
FindsNothing site (Ok same) = (same ≡ site) × (site.first ≡ true)
FindsNothing site (Err (Misread disk)) = (site.first ≡ false) × (disk ≡ site.log.disk)
FindsNothing site (Err other) = ⊥

module _ {D : Type 0} (M : DiskModel D) where
  -- An empty log was made on the disk: after a sync, so that a crash had nothing else to leave.
  pub record IsFormatted (old new : D) : Type 0 where
    pub synced : D
    pub syncs : Syncs M {X = Unit {0}} old synced (Ok tt)
    pub formats : Formats M {X = Unit {0}} synced new (Ok tt)

  -- The disk has an empty log, where it is known what it holds, and so it is with what a crash leaves.
  pub record HoldsEmptyLog (disk : D) : Type 0 where
    pub content : M.content disk ≡ Some formatted
    pub durable : Only formatted (M.may_leave disk)

  -- Nothing of work was made of a disk with an empty log, and it is known what it holds now.
  pub record StaysWithout (old new : D) : Type 0 where
    pub faults : M.faults old ≤ M.faults new
    pub idle : HoldsEmptyLog old → (bytes : List ℕ) × (M.content new ≡ Some bytes) × HasNoWork bytes

  -- Formatting an empty disk, by the answer.
  abbrev pub Prepares : D → Result D (NotStarted D) → Type 0
  Prepares old (Ok disk) = IsFormatted old disk
  Prepares old (Err (Failed disk)) = StaysIdle M old disk × Rose (M.faults old) (M.faults disk)
  Prepares old (Err (Misread disk)) = ⊥
  Prepares old (Err (NoMemory disk)) = StaysIdle M old disk

  module _ (n : ℕ) (catalog : Declared) where
    -- The disk read back other bytes than an empty log's, or fewer: it isn't a log; or the site wasn't opened for what was read of that; or contents were read.
    abbrev pub ReadsOther : D → D → Type 0
    ReadsOther old new =
        ((place : ℕ) × ckpt.Opens M old catalog.journal (Err (unopened.NotOurs new place)))
        ⊎ ((log : CkptLog D) × (why : OpenError (CkptLog D)) × ckpt.Opens M old catalog.journal (Ok log) × sites.Opens (ckpt_model M) log n catalog (Err why)
        × IsForWhatWasRead why × (new ≡ (log_in why).disk))
        ⊎ ((log : CkptLog D) × (site : SiteState (CkptLog D)) × ckpt.Opens M old catalog.journal (Ok log) × HasOpened (ckpt_model M) log n catalog site
        × (site.first ≡ false) × (new ≡ site.log.disk))

    -- A disk with an empty log doesn't.
    pub record Misreads (old new : D) : Type 0 where
      pub reads : ReadsOther old new
      pub untold : HoldsEmptyLog old → ⊥

    -- The site of this number is up, opened on the log of this disk, in which nothing was found.
    pub record HasBegun (old : D) (site : SiteState (CkptLog D)) : Type 0 where
      pub log : CkptLog D
      pub opens : ckpt.Opens M old catalog.journal (Ok log)
      pub opened : HasOpened (ckpt_model M) log n catalog site
      pub first : site.first ≡ true
      pub ready : IsReady (ckpt_model M) site

    -- Opening a site on a disk that was just formatted, by the answer.
    abbrev pub Begins : D → Result (SiteState (CkptLog D)) (NotStarted D) → Type 0
    Begins old (Ok site) = HasBegun old site
    Begins old (Err (Failed disk)) = StaysWithout old disk × Rose (M.faults old) (M.faults disk)
    Begins old (Err (Misread disk)) = StaysWithout old disk × Misreads old disk
    Begins old (Err (NoMemory disk)) = StaysWithout old disk

    -- Both, by the answer. What is read back is other than what was written only of a disk of which it isn't known what it holds.
    abbrev pub Starts : D → Result (SiteState (CkptLog D)) (NotStarted D) → Type 0
    Starts old (Ok site) = (made : D) × IsFormatted old made × HasBegun made site
    Starts old (Err (Failed disk)) = StaysIdle M old disk × Rose (M.faults old) (M.faults disk)
    Starts old (Err (Misread disk)) = StaysIdle M old disk × ((made : D) × IsFormatted old made × ReadsOther made disk) × (M.content old ≡ None)
    Starts old (Err (NoMemory disk)) = StaysIdle M old disk
