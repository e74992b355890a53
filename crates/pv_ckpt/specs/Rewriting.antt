-- What a rewriting of a log in two areas does, at each moment and by its answer: a switch to given contents in place of the log's own.
use Rattle.std.specs.Prelude.{◌≡◌, ℕ, ◌-◌, ◌^◌, ◌<◌, true, false, List, map, Vec, Result, Ok, Err}
use Rattle.std.specs.declared.alloc.Global.{Global}
use Rattle.pv_disk_model.specs.DiskModel.{DiskModel}
use Rattle.pv_disk_model.specs.Size.{Contents, size_of}
use Rattle.pv_law_checkpoints.specs.TwoAreas.{block_of}
use Rattle.pv_ckpt.specs.Checkpointing.{SwitchesTo}
use Rattle.pv_ckpt.specs.declared.ckpt_error.CkptError.{CkptError}
use Rattle.pv_ckpt.specs.declared.ckpt_error.CkptError.TheVariants.{Failed, Down, Spent, NoMemory}
use Rattle.pv_ckpt.specs.declared.ckpt_log.CkptLog.{CkptLog}

-- The contents that these hold.
abbrev pub contents_of : List (Vec ℕ Global) → Contents
contents_of contents = map (λ it. it.items) contents

module _ {D : Type 0} (M : DiskModel D) where
  -- The switch to the given contents, whatever the log has. At each moment a crash leaves the contents before or the given ones.
  abbrev pub SwitchesToGiven : {X : Type 0} → CkptLog D → CkptLog D → Contents → Result X CkptError → Type 0
  SwitchesToGiven {X} old new given result = SwitchesTo M {X = X} (λ before. given) old new (block_of given) (size_of given) result

  -- A rewriting, by its answer. It reads nothing. The count of faults rose where the disk failed, and else it stays. It is spent exactly where the number in force is the greatest.
  abbrev pub Rewrites : {X : Type 0} → CkptLog D → CkptLog D → Contents → Result X CkptError → Type 0
  Rewrites {X} old new given (Ok x) = SwitchesToGiven {X = X} old new given (Ok x) × (old.root.number < 2 ^ 64 - 1)
  Rewrites {X} old new given (Err Failed) = SwitchesToGiven {X = X} old new given (Err Failed) × (old.root.number < 2 ^ 64 - 1)
  Rewrites {X} old new given (Err NoMemory) = SwitchesToGiven {X = X} old new given (Err NoMemory) × (old.root.number < 2 ^ 64 - 1)
  Rewrites {X} old new given (Err Down) = (old.down ≡ true) × (new ≡ old)
  Rewrites {X} old new given (Err Spent) = (old.down ≡ false) × (new ≡ old) × (old.root.number ≡ 2 ^ 64 - 1)
