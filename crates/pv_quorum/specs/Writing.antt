-- What writing a record does to a decider's log, and by which of its calls.
use Rattle.std.specs.Prelude.{◌≡◌, ℕ, ◌+◌, ◌<◌, true, false, List, [], ◌∷◌, length, Result, Ok, Err}
use Rattle.pv_disk_model.specs.Calls.{LogCall, Makes, append, reserve}
use Rattle.pv_disk_model.specs.Log.{Keeps, Adds, MayAdd, StaysUp, GoesDown, IsWithin}
use Rattle.pv_disk_model.specs.LogModel.{LogModel}
use Rattle.pv_law_quorum.specs.Record.{Record}
use Rattle.pv_quorum.specs.Spelling.{record_bytes}
use Rattle.pv_quorum.specs.declared.error.QuorumError.{QuorumError}
use Rattle.pv_quorum.specs.declared.error.QuorumError.TheVariants.{Fault, Down, NoMemory}
use Rattle.pv_quorum.specs.declared.writing.Written.{Written}
use Rattle.pv_quorum.specs.declared.writing.Written.TheVariants as written

-- the calls by which a content is appended
abbrev pub append_calls : List ℕ → List LogCall
append_calls content = reserve (length content) ∷ append content ∷ []

module _ {W : Type 0} (M : LogModel W) where
  -- An append of these bytes for which room was made, by its answer.
  abbrev pub AppendsBytes : W → W → List ℕ → Result Written QuorumError → Type 0
  AppendsBytes old new bytes (Ok written.Done) = StaysUp M old new × Adds M old new bytes × M.goes old (append bytes) true new
  AppendsBytes old new bytes (Err Fault) = GoesDown M old new × MayAdd M old new bytes × M.goes old (append bytes) false new
  AppendsBytes old new bytes _ = ⊥

  -- Writing a record, by its answer: the log has it; the log would be too long with it, and wasn't touched; the log failed, and has it or
  -- not; or there was no memory, and the log holds what it held.
  abbrev pub Writes : W → W → Record → Result Written QuorumError → Type 0
  Writes old new entry (Ok written.Done) =
      IsWithin M old (length (record_bytes entry)) × StaysUp M old new × Adds M old new (record_bytes entry)
      × Makes M.goes old (append_calls (record_bytes entry)) true new
  Writes old new entry (Ok (written.Full with_it)) =
      (new ≡ old) × (with_it ≡ M.size old + (5 + length (record_bytes entry))) × (M.limit old < with_it)
  Writes old new entry (Err Fault) =
      IsWithin M old (length (record_bytes entry)) × GoesDown M old new × MayAdd M old new (record_bytes entry)
      × Makes M.goes old (append_calls (record_bytes entry)) false new
  Writes old new entry (Err NoMemory) = StaysUp M old new × Keeps M old new
  Writes old new entry (Err Down) = ⊥
