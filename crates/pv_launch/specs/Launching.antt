-- What launching the sites of a catalog does to the bay that their disks come from.
use Rattle.std.specs.Prelude.{◌≡◌, ◌≢◌, ℕ, ◌<◌, ◌≤◌, ◌==◌, true, false, if◌then◌else◌, List, [], Some, Result, Ok, Err, Vec, length, ⊤}
use Rattle.std.specs.declared.alloc.Global.{Global}
use Rattle.pv_base.specs.Catalog.{Declared}
use Rattle.pv_base.specs.Fault.{Rose, risen}
use Rattle.pv_ckpt.specs.CkptModel.{ckpt_model}
use Rattle.pv_ckpt.specs.declared.ckpt_log.CkptLog.{CkptLog}
use Rattle.pv_disk.specs.BayModel.{BayModel}
use Rattle.pv_disk_model.specs.DiskModel.{DiskModel}
use Rattle.pv_launch.specs.Disks.{AreLeft, IsBegunOn, IsOfDisks, Leaves}
use Rattle.pv_opening.specs.Opening.{AreNew}
use Rattle.pv_launch.specs.Ordered.{Numbered, Paired}
use Rattle.pv_launch.specs.declared.given_up.GivenUp.{GivenUp}
use Rattle.pv_launch.specs.declared.not_launched.NotLaunched.{NotLaunched}
use Rattle.pv_launch.specs.declared.not_launched.NotLaunched.TheVariants.{NotEmpty, BayFault, DiskFault, Misread, NoMemory}
use Rattle.pv_site.specs.SiteState.{SiteState}

module _ {B V : Type 0} (M : BayModel B) (D : DiskModel V) where
  -- ## Disks that are out
  -- The disk was handed out for the site of this number: no call of it has failed, and it reads what the bay says, where that tells.
  pub record WasTaken (old : B) (n : ℕ) (disk : V) : Type 0 where
    pub unfailed : D.faults disk ≡ 0
    pub holds : M.tells old ≡ true → D.content disk ≡ Some (M.berth old n).holds

  -- The disks of the first sites are out, in order. Of others and of what the bay tells nothing is changed.
  pub record AreTaken (old new : B) (disks : List V) : Type 0 where
    pub were : Numbered (WasTaken old) 0 disks
    pub out : (n : ℕ) → n < length disks → M.berth new n ≡ record (M.berth old n) { is_out = true }
    pub beyond : (n : ℕ) → length disks ≤ n → M.berth new n ≡ M.berth old n
    pub tells : M.tells new ≡ M.tells old

  -- No disk more was handed out, since the bay failed, which it counted, or for want of memory.
  abbrev pub IsOfBay : NotLaunched → B → B → Type 0
  IsOfBay BayFault old new = M.faults new ≡ risen (M.faults old)
  IsOfBay NoMemory old new = M.faults new ≡ M.faults old
  IsOfBay other old new = ⊥

  -- Taking so many disks, by the answer: all are out, or those are that were handed out before.
  abbrev pub TakesAll : ℕ → B → B → Result (Vec V Global) (GivenUp V) → Type 0
  TakesAll count old new (Ok disks) = AreTaken old new disks.items × (length disks.items ≡ count) × (M.faults new ≡ M.faults old)
  TakesAll count old new (Err left) = AreTaken old new left.disks.items × (length left.disks.items ≤ count) × IsOfBay left.why old new

  -- ## Disks that are back
  -- The disk is handed back for the site of this number. The count of the site rises where a call of the disk had failed, and only there.
  abbrev pub IsBack : B → B → ℕ → V → Type 0
  IsBack old new n disk =
      (M.berth new n ≡ record (M.berth old n) {
        is_out = false;
        faults = if D.faults disk == 0 then (M.berth old n).faults else risen (M.berth old n).faults;
        holds = (M.berth new n).holds;
      })
      × (M.tells old ≡ true → (bytes : List ℕ) → D.content disk ≡ Some bytes → (M.berth new n).holds ≡ bytes)

  -- These disks, of the first sites, are handed back, in order, and else nothing is changed.
  pub record AreBack (old new : B) (disks : List V) : Type 0 where
    pub back : Numbered (IsBack old new) 0 disks
    pub beyond : (n : ℕ) → length disks ≤ n → M.berth new n ≡ M.berth old n
    pub faults : M.faults new ≡ M.faults old
    pub tells : M.tells new ≡ M.tells old

  module _ (catalog : Declared) where
    -- Why no site runs: for a fault of the bay, which its own count tells, or for one of so many disks, or for want of memory.
    abbrev pub IsCause : NotLaunched → ℕ → B → B → Type 0
    IsCause BayFault count old new = M.faults new ≡ risen (M.faults old)
    IsCause why count old new = IsOfDisks why count × (M.faults new ≡ M.faults old)

    -- The disks that are out when all sites run, or when they are to go back, by the answer.
    abbrev pub Brings : B → B → Result (Vec (SiteState (CkptLog V)) Global) (GivenUp V) → Type 0
    Brings old new (Ok sites) =
        (taken : List V) × AreTaken old new taken × (length taken ≡ catalog.sites) × (M.faults new ≡ M.faults old)
        × Paired (IsBegunOn D catalog) 0 taken sites.items
    Brings old new (Err left) =
        (taken : List V) × AreTaken old new taken × (length taken ≤ catalog.sites) × AreLeft D catalog taken left
        × IsCause left.why (length taken) old new

    -- ## Launching
    -- The disk of the site of this number was handed out, and the site was started on it.
    pub record IsLaunched (old : B) (n : ℕ) (site : SiteState (CkptLog V)) : Type 0 where
      pub taken : V
      pub was : WasTaken old n taken
      pub begun : IsBegunOn D catalog n taken site

    -- All sites run, each on its disk, which is out.
    pub record AreLaunched (old new : B) (sites : List (SiteState (CkptLog V))) : Type 0 where
      pub new_sites : AreNew (ckpt_model D) catalog sites
      pub launched : Numbered (IsLaunched old) 0 sites
      pub out : (n : ℕ) → n < catalog.sites → M.berth new n ≡ record (M.berth old n) { is_out = true }
      pub beyond : (n : ℕ) → catalog.sites ≤ n → M.berth new n ≡ M.berth old n
      pub faults : M.faults new ≡ M.faults old
      pub tells : M.tells new ≡ M.tells old

    -- The disk of the site of this number was handed out, and handed back with nothing made of it but what this refusal leaves.
    pub record IsHandedBack (why : NotLaunched) (old new : B) (n : ℕ) : Type 0 where
      pub taken : V
      pub was : WasTaken old n taken
      pub given : V
      pub leaves : Leaves D catalog why n taken given
      pub back : IsBack old new n given

    -- What the bay tells of that: a disk isn't empty; or its site's count rose; or the bay doesn't tell what its disks hold.
    abbrev pub Shows : NotLaunched → B → B → Type 0
    Shows (NotEmpty site) old new = M.tells old ≡ true → (M.berth old site.0).holds ≢ []
    Shows BayFault old new = ⊤
    Shows (DiskFault site) old new = Rose (M.berth old site.0).faults (M.berth new site.0).faults
    Shows (Misread site) old new = M.tells old ≢ true
    Shows NoMemory old new = ⊤

    -- No site runs, for this cause. The disks of the first sites were handed out and are back, and of others nothing is changed.
    pub record IsRefused (old new : B) (why : NotLaunched) : Type 0 where
      pub count : ℕ
      pub few : count ≤ catalog.sites
      pub each : (n : ℕ) → n < count → IsHandedBack why old new n
      pub beyond : (n : ℕ) → count ≤ n → M.berth new n ≡ M.berth old n
      pub tells : M.tells new ≡ M.tells old
      pub cause : IsCause why count old new
      pub shows : Shows why old new

    -- Launching, by its answer.
    abbrev pub Launches : B → B → Result (Vec (SiteState (CkptLog V)) Global) NotLaunched → Type 0
    Launches old new (Ok sites) = AreLaunched old new sites.items
    Launches old new (Err why) = IsRefused old new why
