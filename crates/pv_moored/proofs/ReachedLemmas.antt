-- What the calls of a log come to, by what becomes of what is armed.
use Rattle.std.proofs.Common.{◌≡◌, ◌⊎◌, inl, inr, ℕ, Bool, true, false, List, [], ◌∷◌, ◌++◌, Option, Some, None, MatchBool, refl}
use Rattle.std.specs.Prelude.{nat_lt, if◌then◌else◌}
use Rattle.pv_base.specs.declared.limits.TheConstants.{MAX_JOURNAL}
use Rattle.pv_disk.specs.MemDisk.{MemState}
use Rattle.pv_disk.specs.MemLaws.{mem_model}
use Rattle.pv_disk.specs.declared.arms.Arm.{Arm}
use Rattle.pv_disk_model.specs.Size.{Contents}
use Rattle.pv_format.specs.Checkpoint.{Standing}
use Rattle.pv_journal.specs.Armed.{contents_left}
use Rattle.pv_law_calls.specs.Armed.{nearer}
use Rattle.pv_ckpt.specs.Armed.{AppendsArmed, Holds, HoldsUp, SyncsArmed}
use Rattle.pv_ckpt.specs.CkptLog.{IsIntact}
use Rattle.pv_ckpt.specs.declared.ckpt_log.CkptLog.{CkptLog}
use Rattle.pv_moored.specs.Opening.{HasOpened}
use Rattle.pv_moored.specs.Reached.{AppendsBy, Reached, SyncsBy, reached, waits, fires}
use Rattle.pv_moored.specs.declared.moored.Opened.TheVariants.{Up, Broke}

module _ (contents : Contents) (standing : Standing) where
  module _ (content : List ℕ) (ok : Bool) (disk : MemState) where
    appends-one : (late : Bool) (arm : Arm)
        → MatchBool late ((ok ≡ true) × Holds (contents ++ content ∷ []) standing (Some (nearer 4 arm)) None disk)
        ((ok ≡ false) × Holds (contents_left contents content arm) standing None (Some arm.stop) disk)
        → AppendsBy contents standing content ok disk (if late then waits (Some (nearer 4 arm)) else fires arm)
    appends-one true arm comes = comes
    appends-one false arm comes = comes

    pub appends-by : (armed : Option Arm) → AppendsArmed contents standing content armed ok disk → AppendsBy contents standing content ok disk (reached 4 armed)
    appends-by None comes = comes
    appends-by (Some arm) comes = appends-one (nat_lt 4 arm.left) arm comes

    pub appends-or-not : (armed : Option Arm) → AppendsArmed contents standing content armed ok disk ⊎ ((ok ≡ false) × Holds contents standing armed None disk)
        → AppendsBy contents standing content ok disk (reached 4 armed) ⊎ ((ok ≡ false) × Holds contents standing armed None disk)
    appends-or-not armed (inl comes) = inl (appends-by armed comes)
    appends-or-not armed (inr failed) = inr failed

  module _ (ok : Bool) (disk : MemState) where
    syncs-one : (late : Bool) (arm : Arm)
        → MatchBool late ((ok ≡ true) × Holds contents standing (Some (nearer 1 arm)) None disk) ((ok ≡ false) × Holds contents standing None (Some arm.stop) disk)
        → SyncsBy contents standing ok disk (if late then waits (Some (nearer 1 arm)) else fires arm)
    syncs-one true arm comes = comes
    syncs-one false arm comes = comes

    pub syncs-by : (armed : Option Arm) → SyncsArmed contents standing armed ok disk → SyncsBy contents standing ok disk (reached 1 armed)
    syncs-by None comes = comes
    syncs-by (Some arm) comes = syncs-one (nat_lt 1 arm.left) arm comes

  module _ (armed : Option Arm) where
    -- The sync didn't fire.
    opens-by : (log : CkptLog MemState) (r : Reached) → reached 1 armed ≡ r → SyncsBy contents standing true log.disk r → IsIntact mem_model log → log.limit ≡ MAX_JOURNAL
        → ((rest : Option Arm) → Holds contents standing rest None log.disk → HoldsUp contents standing rest log) → HasOpened contents standing armed (Up log)
    opens-by log (waits rest) is syncs intact limit up = (rest, is, intact, up rest syncs.1, limit)
    opens-by log (fires arm) is syncs intact limit up = absurd (let wrong : ⊥ = cc in wrong)

    pub opens-up : (log : CkptLog MemState) → SyncsArmed contents standing armed true log.disk → IsIntact mem_model log → log.limit ≡ MAX_JOURNAL
        → ((rest : Option Arm) → Holds contents standing rest None log.disk → HoldsUp contents standing rest log) → HasOpened contents standing armed (Up log)
    opens-up log syncs intact limit up = opens-by log (reached 1 armed) refl (syncs-by true log.disk armed syncs) intact limit up

    -- What a disk came to that failed as its log was opened: the sync fired, and nothing else may have.
    module _ (failed disk : MemState) (stops : Bool)
        (mends : (left : Option Arm) (fired : Option Bool) → Holds contents standing left fired failed → (fired ≡ Some stops) × Holds contents standing None None disk) where
      breaks-by : (r : Reached) → reached 1 armed ≡ r → SyncsBy contents standing false failed r → HasOpened contents standing armed (Broke disk stops)
      breaks-by (waits rest) is syncs = absurd (let wrong : ⊥ = cc in wrong)
      breaks-by (fires arm) is syncs =
          let mended = mends None (Some arm.stop) syncs.1 in
          let same : arm.stop ≡ stops = let told : Some arm.stop ≡ Some stops = mended.0 in cc in
          (arm, is, same, mended.1)

      -- It has fired, so that it isn't as after a sync that succeeds.
      quiet-by : (r : Reached) → SyncsBy contents standing true failed r → ⊥
      quiet-by (waits rest) syncs = let told = (mends rest None syncs.1).0 in let wrong : ⊥ = cc in wrong
      quiet-by (fires arm) syncs = let wrong : ⊥ = cc in wrong

      pub breaks : SyncsArmed contents standing armed false failed ⊎ SyncsArmed contents standing armed true failed → HasOpened contents standing armed (Broke disk stops)
      breaks (inl syncs) = breaks-by (reached 1 armed) refl (syncs-by false failed armed syncs)
      breaks (inr syncs) = absurd (quiet-by (reached 1 armed) (syncs-by true failed armed syncs))
