-- What a rewriting makes of a log: at each moment it holds the records that it held, and where it is done none of its contents is an old spelling.
use Rattle.std.proofs.Common.{◌≡◌, ◌≢◌, ◌⊎◌, ⊎_elim, inl, inr, ℕ, zero, suc, ◌≤◌, false, List, [], ◌++◌, Some, Result, Ok, Err, refl, sym, ap, subst, ◌∙◌, append-nil}
use Rattle.pv_base.proofs.Basics.{Some_inj}
use Rattle.pv_ckpt.specs.CkptLog.{IsIntact, IsLogOf}
use Rattle.pv_ckpt.specs.Rewriting.{Rewrites}
use Rattle.pv_ckpt.specs.declared.ckpt_error.CkptError.{CkptError}
use Rattle.pv_ckpt.specs.declared.ckpt_error.CkptError.TheVariants as error
use Rattle.pv_ckpt.specs.declared.ckpt_log.CkptLog.{CkptLog}
use Rattle.pv_disk_model.proofs.DiskLemmas.{LeavesOnly-none, LeavesOnly-weaken}
use Rattle.pv_disk_model.specs.Disk.{LeavesOnly, Only}
use Rattle.pv_disk_model.specs.DiskModel.{DiskModel}
use Rattle.pv_disk_model.specs.Size.{Contents, size_of}
use Rattle.pv_format.specs.Checkpoint.{Standing}
use Rattle.pv_law_calls.proofs.LookLemmas.{known_before}
use Rattle.pv_law_checkpoints.proofs.OneAnswer.{one_contents}
use Rattle.pv_law_checkpoints.specs.Roots.{other_root}
use Rattle.pv_law_checkpoints.specs.Stages.{IsBeforeOrGiven, IsPacked, Stands, standing_at}
use Rattle.pv_law_checkpoints.specs.TwoAreas.{IsTwoAreas}
use Rattle.pv_law_format.proofs.ReplayLemmas.{written-read}
use Rattle.pv_upgrade.specs.Keeping.{HoldSameRecords, KeepsRecords, WritesNone, none}
use Rattle.pv_upgrade.specs.Renewing.{Renews}
use Rattle.pv_upgrade.specs.Upgrading.{HasNumber, Upgrades}
use Rattle.pv_upgrade.specs.declared.told.Upgrade.TheVariants.{Upgraded, Spent}

-- A log that stands so is one with these contents.
standing-log : (contents : Contents) (standing : Standing) (bytes : List ℕ) → Stands contents standing bytes → IsTwoAreas contents bytes
standing-log contents standing bytes stands = record { at = stands.at; packed = stands.packed; later = stands.later; log = stands.log; is = stands.contents_are }

-- A log whose contents are all in its block.
packed-log : (at : ℕ) (contents : Contents) (was : Standing) (bytes : List ℕ) → IsPacked at contents was bytes → IsTwoAreas contents bytes
packed-log at contents was bytes packed = record { at = other_root at; packed = contents; later = []; log = packed.log; is = sym (append-nil contents) }

-- What stands before a number is one less.
pub one-less : (n : ℕ) → n ≢ 0 → (m : ℕ) × (n ≡ suc m)
one-less zero some = absurd (some refl)
one-less (suc m) some = (m, refl)

module _ {V : Type 0} (D : DiskModel V) (old : CkptLog V) (given : Contents) (count : ℕ) (intact : IsIntact D old) (up : old.down ≡ false)
    (renews : (was : List ℕ) → D.content old.disk ≡ Some was → Renews was given count) where
  module _ (was : List ℕ) (known : D.content old.disk ≡ Some was) where
    abbrev held : IsLogOf was old
    held = intact.at_rest up was known

    abbrev before : Contents
    before = held.0 ++ held.1

    abbrev stood : Standing
    stood = standing_at was old.root.at

    stands : Stands before stood was
    stands = record { at = old.root.at; packed = held.0; later = held.1; log = held.2.log; contents_are = refl; stands = refl }

    same_before : (renews was known).contents ≡ before
    same_before = one_contents (renews was known).contents before was (renews was known).log (standing-log before stood was stands)

    numbered : HasNumber was old.root.number
    numbered = (old.root.at, held.2.root_is.in_force, sym held.2.root_is.number)

    -- What holds the contents before or the given ones holds the same records.
    either-same : (left : List ℕ) → IsBeforeOrGiven given stood before left → HoldSameRecords was left
    either-same left either =
        let those = renews was known in
        let as_before : (standing : Standing) → Stands before standing left → HoldSameRecords was left =
        λ standing so. (
          those.records,
          (those.contents, those.log, those.spelled),
          (those.contents, subst (λ (c : Contents). IsTwoAreas c left) (sym same_before) (standing-log before standing left so), those.spelled),
        ) in
        ⊎_elim (as_before stood)
        (λ later. ⊎_elim (as_before _)
        (λ so. (those.records, (those.contents, those.log, those.spelled), (given, standing-log given _ left so, written-read those.records given those.written))) later)
        either

  -- At each moment a rewriting keeps the records.
  pub rewrite-keeps : {X : Type 0} (new : CkptLog V) (result : Result X CkptError) → Rewrites D {X = X} old new given result → KeepsRecords D old.disk new.disk
  rewrite-keeps new (Ok x) rewrites = λ was known.
      LeavesOnly-weaken D old.disk new.disk _ _ (rewrites.0.0.any_moment (before was known) (stood was known) was known (stands was known)) (λ left either. inr (either-same was known left either))
  rewrite-keeps new (Err error.Failed) rewrites = λ was known.
      LeavesOnly-weaken D old.disk new.disk _ _ (rewrites.0.0.any_moment (before was known) (stood was known) was known (stands was known)) (λ left either. inr (either-same was known left either))
  rewrite-keeps new (Err error.NoMemory) rewrites = λ was known.
      LeavesOnly-weaken D old.disk new.disk _ _ (rewrites.0.0.any_moment (before was known) (stood was known) was known (stands was known)) (λ left either. inr (either-same was known left either))
  rewrite-keeps new (Err error.Down) rewrites = λ was known.
      subst (λ (log : CkptLog V). LeavesOnly D old.disk log.disk (λ left. D.may_leave old.disk left ⊎ HoldSameRecords was left)) (sym rewrites.1)
      (LeavesOnly-none D old.disk _ (λ left may. inl may))
  rewrite-keeps new (Err error.Spent) rewrites = λ was known.
      subst (λ (log : CkptLog V). LeavesOnly D old.disk log.disk (λ left. D.may_leave old.disk left ⊎ HoldSameRecords was left)) (sym rewrites.1)
      (LeavesOnly-none D old.disk _ (λ left may. inl may))

  module _ (some : count ≢ 0) (within : size_of given ≤ old.limit) where
    -- Where it is done, the log has the given contents, and each crash leaves it.
    pub rewrite-done : {X : Type 0} (new : CkptLog V) (x : X) → Rewrites D {X = X} old new given (Ok x) → Upgrades D old.limit old.disk new.disk (Upgraded count)
    rewrite-done new x rewrites = record {
      so = λ was is known now.
          let made = rewrites.0.1.packed (before was known) (stood was known) was known (stands was known) in
          let same : made.0 ≡ is = Some_inj (sym made.1 ∙ now) in (
            given,
            renews was known,
            subst (IsTwoAreas given) same (packed-log old.root.at given (stood was known) made.0 made.2),
            (λ none_replaced. absurd (some none_replaced)),
            (λ some. (within, (old.root.number, numbered was known, rewrites.1))),
          );
      writes = λ none_replaced. absurd (some none_replaced);
      lasts = λ is now.
          let earlier = known_before (D.content old.disk) (D.content new.disk) is rewrites.0.0.known now in
          let made = rewrites.0.1.packed (before earlier.0 earlier.1) (stood earlier.0 earlier.1) earlier.0 earlier.1 (stands earlier.0 earlier.1) in
          let same : made.0 ≡ is = Some_inj (sym made.1 ∙ now) in
          subst (λ (bytes : List ℕ). Only bytes (D.may_leave new.disk)) same made.3;
      counts = rewrites.0.1.uncounted;
    }

    -- Where the log's numbers are used up, it is as it was.
    pub rewrite-spent : (X : Type 0) (new : CkptLog V) → Rewrites D {X = X} old new given (Err error.Spent) → Upgrades D old.limit old.disk new.disk Spent
    rewrite-spent X new rewrites = record {
      so = λ was is known now.
          let less = one-less count some in (
            given,
            less.0,
            subst (Renews was given) less.1 (renews was known),
            within,
            subst (HasNumber was) rewrites.2 (numbered was known),
            Some_inj (sym now ∙ ap (λ (log : CkptLog V). D.content log.disk) rewrites.1 ∙ known),
          );
      writes = subst (λ (log : CkptLog V). WritesNone D.goes old.disk log.disk) (sym rewrites.1) none;
      lasts = tt;
      counts = ap (λ (log : CkptLog V). D.faults log.disk) rewrites.1;
    }
