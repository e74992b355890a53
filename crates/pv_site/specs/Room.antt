-- What making room for a record in the log comes to, and what writing one does.
use Rattle.std.specs.Prelude.{◌≡◌, ℕ, ◌+◌, ◌<◌, ◌≤◌, true, false, List, length, Result, Ok, Err}
use Rattle.pv_format.specs.Record.{Record}
use Rattle.pv_format.specs.RecordSpelling.{SpellsRecord}
use Rattle.pv_disk_model.specs.Calls.{Makes, reserve, append}
use Rattle.pv_disk_model.specs.Log.{Keeps, Adds, MayAdd, StaysUp, GoesDown}
use Rattle.pv_disk_model.specs.LogModel.{LogModel}
use Rattle.pv_protocol.specs.Records.{record_bytes}
use Rattle.pv_site.specs.Calls.{append_calls, FailsToAppend, MayReserve}
use Rattle.pv_site.specs.declared.appending.Room.{Room}
use Rattle.pv_site.specs.declared.appending.Room.TheVariants.{Made, Full}
use Rattle.pv_site.specs.declared.appending.Written.{Written}
use Rattle.pv_site.specs.declared.appending.Written.TheVariants as written
use Rattle.pv_site.specs.declared.error.StepError.{StepError}
use Rattle.pv_site.specs.declared.error.StepError.TheVariants.{Fault, Down, NoMemory}

module _ {W : Type 0} (M : LogModel W) where
  -- Making room for a record, by its answer: there is room for these bytes, which spell it, or the log would be too long with it.
  abbrev pub MakesRoomFor : W → W → Record → Result Room StepError → Type 0
  MakesRoomFor old new entry (Ok (Made bytes)) =
      SpellsRecord entry bytes.items × StaysUp M old new × Keeps M old new × M.has_room new (length bytes.items) × (M.size old + record_bytes entry ≤ M.limit old)
      × M.goes old (reserve (length bytes.items)) true new
  MakesRoomFor old new entry (Ok (Full with_it)) = (new ≡ old) × (with_it ≡ M.size old + record_bytes entry) × (M.limit old < with_it)
  MakesRoomFor old new entry (Err Fault) =
      GoesDown M old new × Keeps M old new × ((content : List ℕ) × SpellsRecord entry content × M.goes old (reserve (length content)) false new)
      × (M.size old + record_bytes entry ≤ M.limit old)
  MakesRoomFor old new entry (Err NoMemory) = StaysUp M old new × Keeps M old new × MayReserve M old new
  MakesRoomFor old new entry (Err Down) = ⊥

  -- An append for which room was made, by its answer.
  abbrev pub AppendsBytes : {X : Type 0} → W → W → List ℕ → Result X StepError → Type 0
  AppendsBytes old new bytes (Ok _) = StaysUp M old new × Adds M old new bytes × M.goes old (append bytes) true new
  AppendsBytes old new bytes (Err Fault) = GoesDown M old new × MayAdd M old new bytes × M.goes old (append bytes) false new
  AppendsBytes old new bytes (Err _) = ⊥

  -- Writing a record, by its answer: the log has it; the log would be too long with it; the log failed, and has it or not, and hasn't it
  -- where room was asked for in vain; or there was no memory, and the log is as it was.
  abbrev pub Writes : W → W → Record → Result Written StepError → Type 0
  Writes old new entry (Ok written.Done) =
      (M.size old + record_bytes entry ≤ M.limit old) × StaysUp M old new
      × ((content : List ℕ) × SpellsRecord entry content × Adds M old new content × Makes M.goes old (append_calls content) true new)
  Writes old new entry (Ok (written.Full with_it)) = (new ≡ old) × (with_it ≡ M.size old + record_bytes entry) × (M.limit old < with_it)
  Writes old new entry (Err Fault) =
      (M.size old + record_bytes entry ≤ M.limit old) × GoesDown M old new
      × ((content : List ℕ) × SpellsRecord entry content × MayAdd M old new content × FailsToAppend M old new content)
  Writes old new entry (Err NoMemory) = StaysUp M old new × Keeps M old new × MayReserve M old new
  Writes old new entry (Err Down) = ⊥
