-- A rewriting: a switch to the block of given contents, or no memory for it.
use Rattle.std.proofs.Common.{◌≡◌, inl, ℕ, ◌-◌, ◌^◌, ◌<◌, ◌++◌, ◌∷◌, false, List, Result, Ok, Err, refl, ◌∙◌, ap, subst, append_assoc}
use Rattle.pv_disk_model.specs.DiskModel.{DiskModel}
use Rattle.pv_disk_model.specs.Size.{Contents, size_of}
use Rattle.pv_format.specs.Journal.{framed}
use Rattle.pv_law_calls.proofs.LookLemmas.{looks_none}
use Rattle.pv_law_checkpoints.specs.TwoAreas.{block_of}
use Rattle.pv_ckpt.specs.Checkpointing.{SwitchesTo}
use Rattle.pv_ckpt.specs.CkptLog.{IsIntact}
use Rattle.pv_ckpt.specs.Rewriting.{Rewrites}
use Rattle.pv_ckpt.specs.declared.ckpt_error.CkptError.{CkptError}
use Rattle.pv_ckpt.specs.declared.ckpt_error.CkptError.TheVariants.{Failed, Down, Spent, NoMemory}
use Rattle.pv_ckpt.specs.declared.ckpt_log.CkptLog.{CkptLog}
use Rattle.pv_ckpt.proofs.SwitchLemmas.{keeps_quiet}

-- A content more in a block.
pub framed_more : (before now content : List ℕ) (later all : Contents) → now ≡ before ++ framed content → before ++ block_of (content ∷ later) ≡ block_of all → now ++ block_of later ≡ block_of all
framed_more before now content later all more is =
    ap (λ (l : List ℕ). l ++ block_of later) more ∙ append_assoc before (framed content) (block_of later) ∙ is

module _ {D : Type 0} (M : DiskModel D) (old : CkptLog D) (given : Contents) (unspent : old.root.number < 2 ^ 64 - 1) where
  by_switch : {X : Type 0} (new : CkptLog D) (result : Result X CkptError) → SwitchesTo M {X = X} (λ before. given) old new (block_of given) (size_of given) result
      → Rewrites M {X = X} old new given result
  by_switch new (Ok x) switches = (switches, unspent)
  by_switch new (Err Failed) switches = (switches, unspent)
  by_switch new (Err NoMemory) switches = (switches, unspent)
  by_switch new (Err Down) none = absurd none
  by_switch new (Err Spent) none = absurd none

  -- The switch to that block.
  pub after_switch : {X : Type 0} (new : CkptLog D) (block : List ℕ) (size : ℕ) (result : Result X CkptError) → block ≡ block_of given → size ≡ size_of given
      → SwitchesTo M {X = X} (λ before. given) old new block size result → Rewrites M {X = X} old new given result
  after_switch {X} new block size result block_is size_is switches =
      by_switch new result
      (subst (λ n. SwitchesTo M {X = X} (λ before. given) old new (block_of given) n result) size_is
      (subst (λ (l : List ℕ). SwitchesTo M {X = X} (λ before. given) old new l size result) block_is switches))

  -- No memory for the block: no call was made.
  pub none_made : (X : Type 0) → IsIntact M old → old.down ≡ false → Rewrites M {X = X} old old given (Err NoMemory)
  none_made X intact up =
      let looks = looks_none M old.disk in (
        (
          keeps_quiet M old intact up (λ before. given) old refl looks.0.any_moment looks.0.faults refl refl,
          record { up = up; uncounted = refl; root = refl; end = refl; content = refl; crash = looks.0.any_moment; room = λ content has. has },
          inl (refl, refl),
        ),
        unspent,
      )
