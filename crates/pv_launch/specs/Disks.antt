-- What is made of the disks on which sites are to start, by whether all do.
use Rattle.std.specs.Prelude.{◌≡◌, ◌≢◌, ℕ, ◌<◌, List, [], Some, None, Result, Ok, Err, Vec, length, ⊤}
use Rattle.std.specs.declared.alloc.Global.{Global}
use Rattle.pv_base.specs.Catalog.{Declared}
use Rattle.pv_base.specs.Fault.{Rose}
use Rattle.pv_base.specs.declared.txn.SiteId.{SiteId}
use Rattle.pv_ckpt.specs.declared.ckpt_log.CkptLog.{CkptLog}
use Rattle.pv_disk_model.specs.DiskModel.{DiskModel}
use Rattle.pv_launch.specs.Ordered.{Paired}
use Rattle.pv_launch.specs.Starting.{HasBegun, IsFormatted, ReadsOther}
use Rattle.pv_launch.specs.Work.{StaysIdle}
use Rattle.pv_launch.specs.declared.given_up.GivenUp.{GivenUp}
use Rattle.pv_launch.specs.declared.not_launched.NotLaunched.{NotLaunched}
use Rattle.pv_launch.specs.declared.not_launched.NotLaunched.TheVariants.{NotEmpty, BayFault, DiskFault, Misread as LaunchMisread, NoMemory as LaunchNoMemory}
use Rattle.pv_launch.specs.declared.not_started.NotStarted.{NotStarted}
use Rattle.pv_launch.specs.declared.not_started.NotStarted.TheVariants.{Failed, Misread, NoMemory}
use Rattle.pv_law_calls.specs.Reading.{LooksOn}
use Rattle.pv_site.specs.SiteState.{SiteState}

-- the disk on which the site runs
abbrev pub disk_of : {D : Type 0} → SiteState (CkptLog D) → D
disk_of site = site.log.disk

-- the disk on which none was started
abbrev pub disk_in : {D : Type 0} → NotStarted D → D
disk_in (Failed disk) = disk
disk_in (Misread disk) = disk
disk_in (NoMemory disk) = disk

-- why no site runs, where that of this number wasn't started
abbrev pub why_for : {D : Type 0} → SiteId → NotStarted D → NotLaunched
why_for site (Failed disk) = DiskFault site
why_for site (Misread disk) = LaunchMisread site
why_for site (NoMemory disk) = LaunchNoMemory

-- It is for one of so many disks that no site runs, or for want of memory.
abbrev pub IsOfDisks : NotLaunched → ℕ → Type 0
IsOfDisks (NotEmpty site) count = site.0 < count
IsOfDisks BayFault count = ⊥
IsOfDisks (DiskFault site) count = site.0 < count
IsOfDisks (LaunchMisread site) count = site.0 < count
IsOfDisks LaunchNoMemory count = ⊤

module _ {D : Type 0} (M : DiskModel D) where
  -- Where it is known what the disk holds, that is nothing.
  abbrev pub IsEmpty : D → Type 0
  IsEmpty disk = (held : List ℕ) → M.content disk ≡ Some held → held ≡ []

  -- A disk of which it is known that it isn't empty is only looked at.
  abbrev pub KeepsFull : D → D → Type 0
  KeepsFull taken given = (held : List ℕ) → M.content taken ≡ Some held → held ≢ [] → LooksOn M taken given

  -- Each disk was asked, and is empty.
  abbrev pub AreEmpty : List D → List D → Type 0
  AreEmpty taken asked = Paired (λ n old new. LooksOn M old new × IsEmpty new) 0 taken asked

  module _ (catalog : Declared) where
    -- The site of this number was started on the disk: that is empty, was formatted, and the site opened on it.
    pub record IsBegunOn (n : ℕ) (taken : D) (site : SiteState (CkptLog D)) : Type 0 where
      pub asked : D
      pub looks : LooksOn M taken asked
      pub empty : IsEmpty asked
      pub made : D
      pub formatted_so : IsFormatted M asked made
      pub begun : HasBegun M n catalog made site

    -- The disk was formatted, and read back other bytes, or fewer. It isn't known what it held.
    pub record IsMisread (n : ℕ) (taken given : D) : Type 0 where
      pub asked : D
      pub looks : LooksOn M taken asked
      pub made : D
      pub formatted_so : IsFormatted M asked made
      pub reads : ReadsOther M n catalog made given
      pub untold : M.content taken ≡ None

    -- What is made of a disk, by its site's number and by why no site runs: of that whose fault it is, and of the others.
    abbrev pub Leaves : NotLaunched → ℕ → D → D → Type 0
    Leaves (NotEmpty site) n taken given = LooksOn M taken given × (n ≡ site.0 → M.content taken ≢ Some [])
    Leaves BayFault n taken given = LooksOn M taken given
    Leaves (DiskFault site) n taken given =
        StaysIdle M taken given × (n ≡ site.0 → Rose (M.faults taken) (M.faults given)) × (n ≢ site.0 → KeepsFull taken given)
    Leaves (LaunchMisread site) n taken given = StaysIdle M taken given × (n ≡ site.0 → IsMisread n taken given) × KeepsFull taken given
    Leaves LaunchNoMemory n taken given = StaysIdle M taken given × KeepsFull taken given

    -- The disks are left so.
    abbrev pub AreLeft : List D → GivenUp D → Type 0
    AreLeft taken left = Paired (Leaves left.why) 0 taken left.disks.items

    -- Asking all disks whether they are empty, by the answer.
    abbrev pub AsksAll : List D → Result (Vec D Global) (GivenUp D) → Type 0
    AsksAll taken (Ok asked) = AreEmpty taken asked.items
    AsksAll taken (Err left) = AreLeft taken left × IsOfDisks left.why (length taken)

    -- Starting the sites of all disks, by the answer.
    abbrev pub BeginsAll : List D → Result (Vec (SiteState (CkptLog D)) Global) (GivenUp D) → Type 0
    BeginsAll taken (Ok sites) = Paired IsBegunOn 0 taken sites.items
    BeginsAll taken (Err left) = AreLeft taken left × IsOfDisks left.why (length taken)
