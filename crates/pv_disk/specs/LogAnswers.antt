-- What the calls of a log do, by their answers.
use Rattle.std.specs.Prelude.{◌≡◌, ℕ, ◌+◌, ◌<◌, false, List, is_some, Result, Ok, Err}
use Rattle.pv_disk_model.specs.LogModel.{LogModel}
use Rattle.pv_disk_model.specs.Log.{Keeps, Adds, MayAdd, StaysUp, GoesDown, WasDown, IsWithin}
use Rattle.pv_disk.specs.declared.log_error.LogError.{LogError}
use Rattle.pv_disk.specs.declared.log_error.LogError.TheVariants.{Failed, Down, Full, NotOurs, NoMemory}

module _ {W : Type 0} (M : LogModel W) where
  -- What a reading does, by its answer. That what it found isn't a log's is answered by no log whose contents are known.
  abbrev pub Reads : {X : Type 0} → W → W → Result X LogError → Type 0
  Reads old new (Ok _) = StaysUp M old new × Keeps M old new
  Reads old new (Err Failed) = GoesDown M old new × Keeps M old new
  Reads old new (Err Down) = WasDown M old new
  Reads old new (Err (NotOurs _)) = StaysUp M old new × Keeps M old new × (is_some (M.contents old) ≡ false)
  Reads old new (Err NoMemory) = StaysUp M old new × Keeps M old new
  Reads old new (Err (Full _)) = ⊥

  -- What making room for a content of so many bytes does, by its answer.
  abbrev pub Reserves : {X : Type 0} → W → W → ℕ → Result X LogError → Type 0
  Reserves old new content (Ok _) = StaysUp M old new × Keeps M old new × IsWithin M old content × M.has_room new content
  Reserves old new content (Err Failed) = GoesDown M old new × Keeps M old new × IsWithin M old content
  Reserves old new content (Err Down) = WasDown M old new
  Reserves old new content (Err (Full with_it)) =
      (M.is_down old ≡ false) × (new ≡ old) × (with_it ≡ M.size old + (5 + content)) × (M.limit old < with_it)
  Reserves old new content (Err NoMemory) = StaysUp M old new × Keeps M old new × IsWithin M old content
  Reserves old new content (Err (NotOurs _)) = ⊥

  -- What an append of this content does, by its answer.
  abbrev pub Appends : {X : Type 0} → W → W → List ℕ → Result X LogError → Type 0
  Appends old new content (Ok _) = StaysUp M old new × Adds M old new content
  Appends old new content (Err Failed) = GoesDown M old new × MayAdd M old new content
  Appends old new content (Err Down) = WasDown M old new
  Appends old new content (Err _) = ⊥
