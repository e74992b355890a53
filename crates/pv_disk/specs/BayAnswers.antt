-- What the calls of a bay do.
use Rattle.std.specs.Prelude.{◌≡◌, ◌≢◌, ℕ, ◌==◌, true, false, if◌then◌else◌, List, Some, Result, Ok, Err}
use Rattle.pv_base.specs.Fault.{risen}
use Rattle.pv_disk_model.specs.DiskModel.{DiskModel}
use Rattle.pv_disk.specs.BayModel.{BayModel}
use Rattle.pv_disk.specs.declared.bay_error.BayError.{BayError}
use Rattle.pv_disk.specs.declared.bay_error.BayError.TheVariants.{Failed, NoMemory}

module _ {W : Type 0} (M : BayModel W) where
  -- Nothing is changed but what is said of this site. Whether the bay tells its contents is fixed.
  pub record StaysBeside (old new : W) (site : ℕ) : Type 0 where
    pub others : (other : ℕ) → other ≢ site → M.berth new other ≡ M.berth old other
    pub faults : M.faults new ≡ M.faults old
    pub tells : M.tells new ≡ M.tells old

  -- No disk was handed out, and nothing is changed but the bay's own count.
  pub record HandsOutNone (old new : W) : Type 0 where
    pub berths : (site : ℕ) → M.berth new site ≡ M.berth old site
    pub tells : M.tells new ≡ M.tells old

  -- A disk that reads this is kept for the site in place of an earlier one, where the bay tells its contents. Another bay may drop it.
  pub record KeepsDisk (old new : W) (site : ℕ) (bytes : List ℕ) : Type 0 where
    pub stays : StaysBeside old new site
    pub is : M.berth new site ≡ record (M.berth old site) { kept = (M.berth new site).kept }
    pub kept : M.tells old ≡ true → (M.berth new site).kept ≡ Some bytes

module _ {W V : Type 0} (M : BayModel W) (D : DiskModel V) where
  -- The site's disk is handed out with a count of 0. It reads what the one that was handed back last did, or, before one was, the first one.
  pub record HandsOut (old new : W) (site : ℕ) (disk : V) : Type 0 where
    pub unfailed : D.faults disk ≡ 0
    pub holds : M.tells old ≡ true → D.content disk ≡ Some (M.berth old site).holds
    pub stays : StaysBeside M old new site
    pub is : M.berth new site ≡ record (M.berth old site) { is_out = true }

  -- What asking for a site's disk does, by its answer.
  abbrev pub Asks : W → W → ℕ → Result V BayError → Type 0
  Asks old new site (Ok disk) = HandsOut old new site disk
  Asks old new site (Err Failed) = HandsOutNone M old new × (M.faults new ≡ risen (M.faults old))
  Asks old new site (Err NoMemory) = HandsOutNone M old new × (M.faults new ≡ M.faults old)

  -- This disk is handed back. The count of the site rises where a call of the disk had failed, and only there.
  pub record TakesBack (old new : W) (site : ℕ) (disk : V) : Type 0 where
    pub stays : StaysBeside M old new site
    pub is : M.berth new site ≡ record (M.berth old site) {
      is_out = false;
      faults = if D.faults disk == 0 then (M.berth old site).faults else risen (M.berth old site).faults;
      holds = (M.berth new site).holds;
    }
    pub holds : M.tells old ≡ true → (bytes : List ℕ) → D.content disk ≡ Some bytes → (M.berth new site).holds ≡ bytes
