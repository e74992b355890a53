-- What is done with the disks of a bay to show them, and what is told of them.
use Rattle.std.specs.Prelude.{◌≡◌, ◌⊎◌, ℕ, zero, suc, List, [], ◌++◌, Some}
use Rattle.pv_base.specs.Catalog.{Declared}
use Rattle.pv_base.specs.Fault.{Rose}
use Rattle.pv_disk.specs.BayModel.{BayModel}
use Rattle.pv_disk_model.specs.DiskModel.{DiskModel}
use Rattle.pv_show.specs.Bays.{ReadsDisk}
use Rattle.pv_show.specs.SiteText.{Found, IsFoundIn, IsTold, failure_text}

module _ {B V : Type 0} (M : BayModel B) (D : DiskModel V) (catalog : Declared) where
  -- The disk of a site was handed out, only read, and handed back. The text tells what was found on it, which is what its bytes are where it tells
  -- them, and it still reads as it did; or the text says that the disk failed, and the bay counted that.
  pub record ShowsSite (old new : B) (site : ℕ) (text : List ℕ) : Type 0 where
    pub taken : V
    pub given : V
    pub disk : ReadsDisk M D old new site taken given
    pub says : ((found : Found) × IsTold catalog site found text
        × ((bytes : List ℕ) → D.content taken ≡ Some bytes → IsFoundIn bytes found) × (D.content given ≡ D.content taken))
        ⊎ ((text ≡ failure_text site) × Rose (M.berth old site).faults (M.berth new site).faults)

  -- So were the disks of so many sites, from site 0 on, and the text tells of them in their order.
  abbrev pub ShowsFirst : ℕ → B → B → List ℕ → Type 0
  ShowsFirst zero old new text = (new ≡ old) × (text ≡ [])
  ShowsFirst (suc site) old new text =
      (mid : B) × (front : List ℕ) × (part : List ℕ) × (text ≡ front ++ part) × ShowsFirst site old mid front × ShowsSite mid new site part

  -- So were those of all sites of the catalog.
  abbrev pub ShowsAll : B → B → List ℕ → Type 0
  ShowsAll old new text = ShowsFirst catalog.sites old new text
