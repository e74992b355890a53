-- What it leaves of a bay to use its disks.
use Rattle.std.proofs.Common.{◌≡◌, ◌≢◌, ◌⊎◌, ⊎_elim, inl, inr, ℕ, ◌≤◌, Bool, false, sym, ap, subst, ◌∙◌, arith}
use Rattle.std.specs.Prelude.{◌==◌, if◌then◌else◌}
use Rattle.std.proofs.lemmas.Bool.{ne_eqb}
use Rattle.std.proofs.lemmas.Bool.Decides.{eqb_tells}
use Rattle.pv_base.specs.Fault.{Rose, risen}
use Rattle.pv_disk.specs.BayModel.{BayModel, Berth}
use Rattle.pv_disk_model.specs.DiskModel.{DiskModel}
use Rattle.pv_show.specs.Bays.{IsAtRest, UsesDisk, UsesDisks, none, one_more, not_handed_out}

same-or-not : (m n : ℕ) → (m ≡ n) ⊎ (m ≢ n)
same-or-not m n = ⊎_elim (λ same. inl same.1) (λ apart. inr apart.1) (eqb_tells m n)

module _ {B V : Type 0} (M : BayModel B) (D : DiskModel V) {Uses : V → V → Type 0} where
  module _ (old new : B) (site : ℕ) (taken given : V) (used : UsesDisk M D Uses old new site taken given) where
    -- The disk isn't out any more.
    pub rest-after : IsAtRest M old → IsAtRest M new
    rest-after rest other = ⊎_elim
        (λ (same : other ≡ site). subst (λ (n : ℕ). (M.berth new n).is_out ≡ false) (sym same) (ap (λ (b : Berth). b.is_out) used.takes_back.is))
        (λ (apart : other ≢ site). ap (λ (b : Berth). b.is_out) (used.takes_back.stays.others other apart ∙ used.hands_out.stays.others other apart) ∙ rest other)
        (same-or-not other site)

    -- The bay itself has not failed.
    pub faults-after : M.faults new ≡ M.faults old
    faults-after = used.takes_back.stays.faults ∙ used.hands_out.stays.faults

    -- A failure of the disk is counted.
    pub failure-counted : Rose (D.faults taken) (D.faults given) → Rose (M.berth old site).faults (M.berth new site).faults
    failure-counted failed =
        let rose : Rose 0 (D.faults given) = subst (λ (n : ℕ). Rose n (D.faults given)) used.hands_out.unfailed failed in
        let test : (D.faults given == 0) ≡ false = ne_eqb (D.faults given) 0 (λ (none_failed : D.faults given ≡ 0). omega arith) in
        let counted : (M.berth new site).faults ≡ risen (M.berth old site).faults =
        ap (λ (b : Berth). b.faults) used.takes_back.is
        ∙ ap (λ (t : Bool). if t then (M.berth used.out site).faults else risen (M.berth used.out site).faults) test
        ∙ ap (λ (b : Berth). risen b.faults) used.hands_out.is in
        subst (λ (n : ℕ). risen (M.berth old site).faults ≤ n) (sym counted) (omega arith)

  -- Uses one after another.
  pub UsesDisks-trans : (sites : ℕ) (old mid new : B) → UsesDisks M D Uses sites old mid → UsesDisks M D Uses sites mid new → UsesDisks M D Uses sites old new
  UsesDisks-trans sites old mid new first none = first
  UsesDisks-trans sites old mid new first (one_more from _ site taken given within second used) =
      one_more from new site taken given within (UsesDisks-trans sites old mid from first second) used
  UsesDisks-trans sites old mid new first (not_handed_out from _ site e within second asks) =
      not_handed_out from new site e within (UsesDisks-trans sites old mid from first second) asks
