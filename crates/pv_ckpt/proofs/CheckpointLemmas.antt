-- A checkpoint: a reading, and a switch to the block that was read.
use Rattle.std.proofs.Common.{◌≡◌, inl, inr, ℕ, ◌-◌, ◌^◌, ◌<◌, ◌+◌, ◌++◌, Bool, true, false, List, Some, Result, Ok, Err, length, arith, refl, sym, ◌∙◌, ap, subst}
use Rattle.std.proofs.lemmas.Bool.{true≢false}
use Rattle.pv_base.specs.Fault.{Rose}
use Rattle.pv_disk_model.specs.Calls.{Makes}
use Rattle.pv_disk_model.specs.DiskModel.{DiskModel}
use Rattle.pv_disk_model.specs.Size.{Contents}
use Rattle.pv_disk_model.proofs.DiskLemmas.{LeavesOnly-trans}
use Rattle.pv_law_calls.specs.Reading.{Looks, LooksOn}
use Rattle.pv_law_calls.proofs.LookLemmas.{still_left}
use Rattle.pv_format.specs.Checkpoint.{Standing}
use Rattle.pv_law_checkpoints.specs.Roots.{other_root}
use Rattle.pv_law_checkpoints.specs.Stages.{free_place, IsPacked, Stands}
use Rattle.pv_law_checkpoints.specs.TwoAreas.{block_of}
use Rattle.pv_ckpt.specs.Checkpointing.{CheckpointMakes, Checkpoints, IsLeftBySwitch, KeepsContents, Leaves, SwitchMakes, SwitchesTo, switch_calls}
use Rattle.pv_ckpt.specs.CkptLog.{IsIntact}
use Rattle.pv_ckpt.specs.Roots.{IsHeld}
use Rattle.pv_ckpt.specs.declared.ckpt_error.CkptError.{CkptError}
use Rattle.pv_ckpt.specs.declared.ckpt_error.CkptError.TheVariants.{Failed, Down, Spent, NoMemory}
use Rattle.pv_ckpt.specs.declared.ckpt_log.CkptLog.{CkptLog}
use Rattle.pv_ckpt.specs.declared.roots.Root.{Root}
use Rattle.pv_ckpt.proofs.KeepLemmas.{keeps_room}
use Rattle.pv_ckpt.proofs.SwitchLemmas.{keeps_own, keeps_quiet, own, quiet, stands_here}

module _ {D : Type 0} (M : DiskModel D) (old : CkptLog D) (intact : IsIntact M old) (up : old.down ≡ false) (unspent : old.root.number < 2 ^ 64 - 1) where
  -- Where the reading failed, or found no memory, no more was done.
  pub reading_failed : (new : CkptLog D) → Looks M old.disk new.disk → new.length ≡ old.length → new.limit ≡ old.limit → new.down ≡ true
      → Rose (M.faults old.disk) (M.faults new.disk) → Checkpoints M {X = Unit {0}} old new (Err Failed)
  reading_failed new looks long limit down rose = (
    keeps_own M old.length old new (keeps_quiet M old intact up own new looks.known looks.any_moment looks.faults long limit),
    record { down = down; rose = rose },
    record { read = new.disk; reads = looks.reads; calls = inl (refl, refl) },
    unspent,
  )

  pub reading_in_vain : (new : CkptLog D) → LooksOn M old.disk new.disk → new.root ≡ old.root → new.end ≡ old.end → new.frame ≡ old.frame → new.length ≡ old.length → new.limit ≡ old.limit
      → new.down ≡ false → Checkpoints M {X = Unit {0}} old new (Err NoMemory)
  reading_in_vain new (looks, content, faults) root end frame long limit down = (
    keeps_own M old.length old new (keeps_quiet M old intact up own new looks.known looks.any_moment looks.faults long limit),
    record {
      up = down;
      uncounted = faults;
      root = root;
      end = end;
      content = content;
      crash = looks.any_moment;
      room = keeps_room M old new frame long limit looks.room looks.writes;
    },
    record { read = new.disk; reads = looks.reads; calls = inl (refl, refl) },
    unspent,
  )

  -- Else a switch came.
  module _ (mid new : CkptLog D) (looks : LooksOn M old.disk mid.disk) (root : mid.root ≡ old.root) (end : mid.end ≡ old.end) (frame : mid.frame ≡ old.frame)
      (long : mid.length ≡ old.length) (limit : mid.limit ≡ old.limit) (block : List ℕ)
      (block_is : (bytes : List ℕ) (packed later : Contents) → M.content old.disk ≡ Some bytes → IsHeld bytes old.root old.end packed later → block ≡ block_of (packed ++ later)) where
    all_in_it : (contents : Contents) (was : Standing) (bytes : List ℕ) → M.content old.disk ≡ Some bytes → Stands contents was bytes → block ≡ block_of contents
    all_in_it contents was bytes known stands =
        let here = stands_here M old intact up bytes contents was known stands in
        let is = here.0 in
        block_is bytes is.0 is.1 known is.2 ∙ ap block_of (sym here.1)

    keeps_both : Leaves M (IsLeftBySwitch own) mid.length mid new → KeepsContents M old new
    keeps_both leaves = keeps_own M old.length old new (record {
      known = leaves.known ∙ looks.0.known;
      any_moment = λ contents was bytes known stands.
          let P = IsLeftBySwitch own was contents in
          LeavesOnly-trans M old.disk mid.disk new.disk P P P (quiet M old intact up own mid.disk looks.0.any_moment contents was bytes known stands)
          (leaves.any_moment contents was bytes (looks.1 ∙ known) stands) (λ left has. has) (λ left has. has);
      length = leaves.length ∙ long;
      limit = leaves.limit ∙ limit;
      was_up = up;
      faults = omega (arith, leaves.faults, looks.0.faults);
    })

    makes_both : (ok : Bool) → SwitchMakes M mid new block ok → (ok ≡ true → new.root.size ≡ length block) → CheckpointMakes M old new ok
    makes_both ok (inl none) size = record { read = mid.disk; reads = looks.0.reads; calls = inl none }
    makes_both ok (inr made) size = record {
      read = mid.disk;
      reads = looks.0.reads;
      calls = inr (
        block,
        all_in_it,
        subst (λ n. Makes M.goes mid.disk (switch_calls old.root n block) ok new.disk) end (subst (λ (r : Root). Makes M.goes mid.disk (switch_calls r mid.end block) ok new.disk) root made),
        size,
      );
    }

    makes_none : SwitchMakes M mid new block false → CheckpointMakes M old new false
    makes_none makes = makes_both false makes (λ ok. absurd (true≢false (sym ok)))

    pub after_reading : {X : Type 0} (result : Result X CkptError) → SwitchesTo M {X = X} own mid new block mid.length result → Checkpoints M {X = X} old new result
    after_reading (Ok x) (keeps, done, makes, size) = (
      keeps_both keeps,
      record {
        up = done.up;
        uncounted = done.uncounted ∙ looks.2;
        number = done.number ∙ ap (λ (r : Root). r.number + 1) root;
        packed = λ contents was bytes known stands.
            let all = done.packed contents was bytes (looks.1 ∙ known) stands in
            (all.0, all.1, subst (λ (r : Root). IsPacked r.at contents was all.0) root all.2, all.3);
        at = done.at ∙ ap (λ (r : Root). other_root r.at) root;
        place = done.place ∙ ap (λ (r : Root). free_place new.root.size r.place mid.end) root ∙ ap (free_place new.root.size old.root.place) end;
        other = done.other;
        end = done.end;
      },
      makes_both true makes (λ ok. size),
      unspent,
    )
    after_reading (Err Failed) (keeps, failed, makes) =
        (keeps_both keeps, record { down = failed.down; rose = omega (arith, failed.rose, looks.2) }, makes_none makes, unspent)
    after_reading (Err NoMemory) (keeps, same, makes) = (
      keeps_both keeps,
      record {
        up = same.up;
        uncounted = same.uncounted ∙ looks.2;
        root = same.root ∙ root;
        end = same.end ∙ end;
        content = same.content ∙ looks.1;
        crash = LeavesOnly-trans M old.disk mid.disk new.disk (M.may_leave old.disk) (M.may_leave mid.disk) (M.may_leave old.disk) looks.0.any_moment same.crash (λ left may. may)
            (still_left M old.disk mid.disk (M.may_leave old.disk) looks.0.any_moment);
        room = λ content has. same.room content (keeps_room M old mid frame long limit looks.0.room looks.0.writes content has);
      },
      makes_none makes,
      unspent,
    )
    after_reading (Err Down) none = absurd none
    after_reading (Err Spent) none = absurd none
