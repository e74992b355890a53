-- How the effects of calls on a log join.
use Rattle.std.proofs.Common.{◌≡◌, inl, inr, ⊎_elim, ℕ, ◌+◌, length, List, Option, Some, refl, ◌∙◌, ap, arith, false}
use Rattle.std.specs.Prelude.{is_some}
use Rattle.pv_disk_model.specs.Size.{Contents}
use Rattle.pv_disk_model.specs.LogModel.{LogModel}
use Rattle.pv_disk_model.specs.Log.{IsBeforeOrAfter, LeavesOnly, Keeps, Adds, MayAdd, StaysUp, GoesDown}

module _ {W : Type 0} (M : LogModel W) where
  pub Keeps-refl : (log : W) → Keeps M log log
  Keeps-refl log = record {
    contents = refl;
    size = refl;
    limit = refl;
    later = omega arith;
    crash = λ t left le is. is;
    keeps = λ t left le is. is;
  }

  pub Keeps-trans : (old mid new : W) → Keeps M old mid → Keeps M mid new → Keeps M old new
  Keeps-trans old mid new first second = record {
    contents = second.contents ∙ first.contents;
    size = second.size ∙ first.size;
    limit = second.limit ∙ first.limit;
    later = omega arith;
    crash = λ t left le is. first.crash t left le (second.crash t left (omega (arith, first.later)) is);
    keeps = λ t left le is. second.keeps t left (omega (arith, first.later)) (first.keeps t left le is);
  }

  -- What a crash leaves of an intact log that isn't down is what it holds.
  pub settled_since : (log : W) (held : Contents) (left : Option Contents) → M.is_intact log → M.contents log ≡ Some held → M.left_since log (M.moment log) left
      → M.is_down log ≡ false → left ≡ Some held
  settled_since log held left intact is since up = M.settled log held left intact up is (M.only_now log left since)

  LeavesOnly-after : (old mid new : W) (P : Option Contents → Type 0) → Keeps M old mid → ((left : Option Contents) → M.left_since old (M.moment old) left → P left)
      → LeavesOnly M mid new P → LeavesOnly M old new P
  LeavesOnly-after old mid new P keeps here leaves = record {
    later = omega (arith, keeps.later, leaves.later);
    each = λ left is. ⊎_elim (λ was. here left (keeps.crash (M.moment old) left (omega arith) was)) (λ has. has) (leaves.before (M.moment old) left keeps.later is);
    before = λ t left le is. ⊎_elim (λ was. inl (keeps.crash t left le was)) (λ has. inr has) (leaves.before t left (omega (arith, keeps.later)) is);
    keeps = λ t left le is. leaves.keeps t left (omega (arith, keeps.later)) (keeps.keeps t left le is);
  }

  -- An append that comes after calls that keep the log is one from before them.
  module _ (old mid new : W) (intact : M.is_intact old) (up : M.is_down old ≡ false) (keeps : Keeps M old mid) (content : List ℕ) where
    any_moment_after : ((was : Contents) → M.contents mid ≡ Some was → LeavesOnly M mid new (IsBeforeOrAfter was content))
        → (was : Contents) → M.contents old ≡ Some was → LeavesOnly M old new (IsBeforeOrAfter was content)
    any_moment_after moments was is =
        LeavesOnly-after old mid new (IsBeforeOrAfter was content) keeps (λ left since. inl (settled_since old was left intact is since up)) (moments was (keeps.contents ∙ is))

    pub Keeps-Adds : Adds M mid new content → Adds M old new content
    Keeps-Adds adds = record {
      contents = λ was is. adds.contents was (keeps.contents ∙ is);
      known = adds.known ∙ ap is_some keeps.contents;
      size = adds.size ∙ ap (λ n. n + (5 + length content)) keeps.size;
      limit = adds.limit ∙ keeps.limit;
      any_moment = any_moment_after adds.any_moment;
      durable = λ was is left may. adds.durable was (keeps.contents ∙ is) left may;
    }

    pub Keeps-MayAdd : MayAdd M mid new content → MayAdd M old new content
    Keeps-MayAdd adds = record {
      contents = λ was is. adds.contents was (keeps.contents ∙ is);
      known = adds.known ∙ ap is_some keeps.contents;
      size = ⊎_elim (λ same. inl (same ∙ keeps.size)) (λ longer. inr (longer ∙ ap (λ n. n + (5 + length content)) keeps.size)) adds.size;
      limit = adds.limit ∙ keeps.limit;
      any_moment = any_moment_after adds.any_moment;
    }

module _ {W : Type 0} (M : LogModel W) where
  -- A reservation that fails: nothing is added.
  pub keeping_may_add : (old new : W) (content : List ℕ) → M.is_intact old → M.is_down old ≡ false → Keeps M old new → MayAdd M old new content
  keeping_may_add old new content intact up kept = record {
    contents = λ was is. inl (kept.contents ∙ is);
    known = ap is_some kept.contents;
    size = inl kept.size;
    limit = kept.limit;
    any_moment = λ was is. record {
      later = kept.later;
      each = λ left since. inl (settled_since M old was left intact is (kept.crash (M.moment old) left (omega arith) since) up);
      before = λ t left le since. inl (kept.crash t left le since);
      keeps = λ t left le since. kept.keeps t left le since;
    };
  }

  -- A log that stays up, and then stays up or goes down.
  pub StaysUp-trans : (old mid new : W) → StaysUp M old mid → StaysUp M mid new → StaysUp M old new
  StaysUp-trans old mid new first second = record { was_up = first.was_up; is_up = second.is_up; faults = omega (arith, first.faults, second.faults) }

  pub StaysUp-GoesDown : (old mid new : W) → StaysUp M old mid → GoesDown M mid new → GoesDown M old new
  StaysUp-GoesDown old mid new first second = record {
    was_up = first.was_up;
    is_down = second.is_down;
    faults = omega (arith, first.faults, second.faults);
    fault = omega (arith, first.faults, second.fault);
  }

-- The effect of calls that keep a log, and then of one more.
pub ruleset log_joins = (Keeps-trans, Keeps-Adds, Keeps-MayAdd)
