-- What it does to a bay to use its disks, one after another, and to read them.
use Rattle.std.specs.Prelude.{◌≡◌, ℕ, ◌<◌, false, Result, Err}
use Rattle.pv_base.specs.Fault.{Rose}
use Rattle.pv_disk.specs.BayAnswers.{Asks, HandsOut, TakesBack}
use Rattle.pv_disk.specs.BayModel.{BayModel}
use Rattle.pv_disk.specs.declared.bay_error.BayError.{BayError}
use Rattle.pv_disk_model.specs.Calls.{OnlyReads}
use Rattle.pv_disk_model.specs.DiskModel.{DiskModel}
use Rattle.pv_show.specs.declared.show_error.ShowError.{ShowError}
use Rattle.pv_show.specs.declared.show_error.ShowError.TheVariants.{BayFault}

module _ {B : Type 0} (M : BayModel B) where
  -- No site's disk is out.
  abbrev pub IsAtRest : B → Type 0
  IsAtRest bay = (site : ℕ) → (M.berth bay site).is_out ≡ false

  -- The count of the bay's own faults rose at `BayFault`, and is as it was at every other answer.
  abbrev pub RisesAtBayFault : {X : Type 0} → B → B → Result X ShowError → Type 0
  RisesAtBayFault old new (Err BayFault) = Rose (M.faults old) (M.faults new)
  RisesAtBayFault old new result = M.faults new ≡ M.faults old

module _ {B V : Type 0} (M : BayModel B) (D : DiskModel V) (Uses : V → V → Type 0) where
  -- The disk of a site was handed out, then used so, and then handed back.
  pub record UsesDisk (old new : B) (site : ℕ) (taken given : V) : Type 0 where
    pub out : B
    pub hands_out : HandsOut M D old out site taken
    pub uses : Uses taken given
    pub takes_back : TakesBack M D out new site given

  -- Disks of sites below this number were so used, one after another. Others of such sites were asked for and not handed out.
  pub data UsesDisks (sites : ℕ) (old : B) : B → Type 0 where
    none : UsesDisks sites old old
    one_more : (mid new : B) (site : ℕ) (taken given : V) → site < sites → UsesDisks sites old mid → UsesDisk mid new site taken given → UsesDisks sites old new
    not_handed_out : (mid new : B) (site : ℕ) (e : BayError) → site < sites → UsesDisks sites old mid → Asks M D mid new site (Err e) → UsesDisks sites old new

module _ {B V : Type 0} (M : BayModel B) (D : DiskModel V) where
  -- The disk of a site was only read.
  abbrev pub ReadsDisk : (old new : B) (site : ℕ) (taken given : V) → Type 0
  ReadsDisk = UsesDisk M D (OnlyReads D.goes)

  -- Disks of sites below this number were only read.
  abbrev pub OnlyReadsDisks : (sites : ℕ) → B → B → Type 0
  OnlyReadsDisks = UsesDisks M D (OnlyReads D.goes)
