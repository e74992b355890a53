-- Boxes whose sites' disks were handed back to the bay that they came from.
use Rattle.std.specs.Prelude.{◌≡◌, ℕ, ◌<◌, ◌≤◌, List, length, get_or}
use Rattle.pv_cell.specs.declared.site_box.SiteBox.{SiteBox}
use Rattle.pv_ckpt.specs.declared.ckpt_log.CkptLog.{CkptLog}
use Rattle.pv_disk.specs.BayModel.{BayModel}
use Rattle.pv_disk_model.specs.DiskModel.{DiskModel}
use Rattle.pv_launch.specs.Disks.{disk_of}
use Rattle.pv_launch.specs.Launching.{IsBack}

-- The disk of each box is handed back for the site of its number, and else nothing is changed.
pub record AreBroughtBack {B V : Type 0} (M : BayModel B) (D : DiskModel V) (old new : B) (boxes : List (SiteBox (CkptLog V))) : Type 0 where
  pub back : (n : ℕ) (any : SiteBox (CkptLog V)) → n < length boxes → IsBack M D old new n (disk_of (get_or boxes n any).site)
  pub beyond : (n : ℕ) → length boxes ≤ n → M.berth new n ≡ M.berth old n
  pub faults : M.faults new ≡ M.faults old
  pub tells : M.tells new ≡ M.tells old
