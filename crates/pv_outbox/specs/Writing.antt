-- What writing a record does to an outbox's log, and by which of its calls.
use Rattle.std.specs.Prelude.{◌≡◌, ℕ, ◌+◌, ◌<◌, Bool, true, false, List, length, Result, Ok, Err}
use Rattle.pv_disk_model.specs.Calls.{append, reserve}
use Rattle.pv_disk_model.specs.Log.{Keeps, Adds, MayAdd, StaysUp, GoesDown, IsWithin}
use Rattle.pv_disk_model.specs.LogModel.{LogModel}
use Rattle.pv_outbox.specs.declared.error.BoxError.{BoxError}
use Rattle.pv_outbox.specs.declared.error.BoxError.TheVariants.{Failed, Full, NoMemory}

-- The log failed, by the answer.
abbrev pub has_failed : {X : Type 0} → Result X BoxError → Bool
has_failed (Err Failed) = true
has_failed _ = false

module _ {W : Type 0} (M : LogModel W) where
  -- Making room for these bytes, by its answer.
  abbrev pub MakesRoom : {X : Type 0} → W → W → List ℕ → Result X BoxError → Type 0
  MakesRoom old new bytes (Ok _) =
      StaysUp M old new × Keeps M old new × M.has_room new (length bytes) × IsWithin M old (length bytes) × M.goes old (reserve (length bytes)) true new
  MakesRoom old new bytes (Err Failed) =
      GoesDown M old new × Keeps M old new × IsWithin M old (length bytes) × M.goes old (reserve (length bytes)) false new
  MakesRoom old new bytes (Err (Full with_it)) = (new ≡ old) × (with_it ≡ M.size old + (5 + length bytes)) × (M.limit old < with_it)
  MakesRoom old new bytes (Err NoMemory) = StaysUp M old new × Keeps M old new × M.goes old (reserve (length bytes)) false new
  MakesRoom old new bytes (Err _) = ⊥

  -- An append of these bytes for which room was made, by its answer.
  abbrev pub AppendsBytes : {X : Type 0} → W → W → List ℕ → Result X BoxError → Type 0
  AppendsBytes old new bytes (Ok _) = StaysUp M old new × Adds M old new bytes × M.goes old (append bytes) true new
  AppendsBytes old new bytes (Err Failed) = GoesDown M old new × MayAdd M old new bytes × M.goes old (append bytes) false new
  AppendsBytes old new bytes (Err _) = ⊥
