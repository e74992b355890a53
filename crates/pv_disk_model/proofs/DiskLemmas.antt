-- How the effects of calls on a disk join.
use Rattle.std.proofs.Common.{inl, inr, ⊎_elim, refl, Bool, true, false, ℕ, List, [], ◌∷◌, arith}
use Rattle.pv_disk_model.specs.Calls.{Makes}
use Rattle.pv_disk_model.specs.DiskModel.{DiskModel}
use Rattle.pv_disk_model.specs.Disk.{LeavesOnly}

module _ {W : Type 0} (M : DiskModel W) where
  -- What a crash leaves of no call is what it may leave now.
  pub LeavesOnly-none : (disk : W) (P : List ℕ → Type 0) → ((left : List ℕ) → M.may_leave disk left → P left) → LeavesOnly M disk disk P
  LeavesOnly-none disk P has = record {
    later = omega arith;
    each = λ left since. has left (M.only_now disk left since);
    before = λ t left le since. inl since;
    keeps = λ t left le since. since;
  }

  -- Two calls, one after another.
  pub LeavesOnly-trans : (old mid new : W) (P Q R : List ℕ → Type 0) → LeavesOnly M old mid P → LeavesOnly M mid new Q
      → ((left : List ℕ) → P left → R left) → ((left : List ℕ) → Q left → R left) → LeavesOnly M old new R
  LeavesOnly-trans old mid new P Q R first second has_first has_second = record {
    later = omega (arith, first.later, second.later);
    each = λ left since. ⊎_elim (λ was. has_first left (first.each left was)) (has_second left) (second.before (M.moment old) left first.later since);
    before = λ t left le since.
        ⊎_elim (λ was. ⊎_elim (λ earlier. inl earlier) (λ now. inr (has_first left now)) (first.before t left le was)) (λ now. inr (has_second left now))
        (second.before t left (omega (arith, first.later)) since);
    keeps = λ t left le since. second.keeps t left (omega (arith, first.later)) (first.keeps t left le since);
  }

  -- What a crash leaves has what follows from it.
  pub LeavesOnly-weaken : (old new : W) (P Q : List ℕ → Type 0) → LeavesOnly M old new P → ((left : List ℕ) → P left → Q left) → LeavesOnly M old new Q
  LeavesOnly-weaken old new P Q leaves follows = record {
    later = leaves.later;
    each = λ left since. follows left (leaves.each left since);
    before = λ t left le since. ⊎_elim (λ was. inl was) (λ has. inr (follows left has)) (leaves.before t left le since);
    keeps = leaves.keeps;
  }

-- One call is a course of calls.
pub Makes-one : {W Call : Type 0} (goes : W → Call → Bool → W → Type 0) (old : W) (call : Call) (ok : Bool) (new : W) → goes old call ok new → Makes goes old (call ∷ []) ok new
Makes-one goes old call true new is = inr (new, is, (refl, refl))
Makes-one goes old call false new is = inl (refl, is)
