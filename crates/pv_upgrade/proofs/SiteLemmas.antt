-- The disk of a site that was handed out, upgraded and handed back.
use Rattle.std.proofs.Common.{◌≡◌, ℕ, ◌+◌, ◌≤◌, Bool, false, List, ◌++◌, add-one, sym, ap, subst, ◌∙◌, arith}
use Rattle.std.specs.Prelude.{◌==◌, if◌then◌else◌}
use Rattle.std.proofs.lemmas.Bool.{ne_eqb}
use Rattle.pv_base.specs.Fault.{Rose, risen}
use Rattle.pv_disk.specs.BayModel.{BayModel, Berth}
use Rattle.pv_disk_model.specs.DiskModel.{DiskModel}
use Rattle.pv_show.specs.Bays.{UsesDisk}
use Rattle.pv_upgrade.specs.Keeping.{KeepsRecords}
use Rattle.pv_upgrade.specs.UpgradeText.{upgrade_text}
use Rattle.pv_upgrade.specs.Upgrading.{CountsBy, Upgrades, UpgradesFirst, UpgradesSite}
use Rattle.pv_upgrade.specs.declared.told.Upgrade.{Upgrade}

module _ {B V : Type 0} (M : BayModel B) (D : DiskModel V) (limit : ℕ) where
  module _ (old new : B) (site : ℕ) (taken given : V) (used : UsesDisk M D (KeepsRecords D) old new site taken given) where
    -- The bay counts a failure of a disk that it takes back.
    counted : Rose (D.faults taken) (D.faults given) → Rose (M.berth old site).faults (M.berth new site).faults
    counted failed =
        let rose : Rose 0 (D.faults given) = subst (λ (n : ℕ). Rose n (D.faults given)) used.hands_out.unfailed failed in
        let test : (D.faults given == 0) ≡ false = ne_eqb (D.faults given) 0 (λ (none_failed : D.faults given ≡ 0). omega arith) in
        let faults : (M.berth new site).faults ≡ risen (M.berth old site).faults =
        ap (λ (b : Berth). b.faults) used.takes_back.is
        ∙ ap (λ (t : Bool). if t then (M.berth used.out site).faults else risen (M.berth used.out site).faults) test
        ∙ ap (λ (b : Berth). risen b.faults) used.hands_out.is in
        subst (λ (n : ℕ). risen (M.berth old site).faults ≤ n) (sym faults) (omega arith)

    -- What came of the upgrade is told.
    pub site-upgraded : (told : Upgrade) (line : List ℕ) → Upgrades D limit taken given told → line ≡ upgrade_text site told → UpgradesSite M D limit old new site line
    site-upgraded told line upgrades says = record {
      taken = taken;
      given = given;
      disk = used;
      told = told;
      upgrades = upgrades;
      says = says;
      fault = λ is. counted (subst (CountsBy D taken given) is upgrades.counts);
    }

  -- One more site is upgraded.
  pub one-more-site : (site : ℕ) (old mid new : B) (front text : List ℕ) → UpgradesFirst M D limit site old mid front
      → (part : List ℕ) × (text ≡ front ++ part) × UpgradesSite M D limit mid new site part → UpgradesFirst M D limit (site + 1) old new text
  one-more-site site old mid new front text before next = rw add-one (mid, front, next.0, next.1, before, next.2)
