-- What is read of a source.
use Rattle.std.specs.Prelude.{◌≡◌, ℕ, ◌+◌, ◌<◌, ◌≤◌, true, false, List, [], Some, is_some, Result, vec_len, length, IfOk, IsErrOf}
use Rattle.std.specs.Global.{Vec}
use Rattle.std.specs.Io.KnownBytes.{Appends}
use Rattle.pv_base.specs.Fault.{Rose}
use Rattle.pv_io.specs.Stream.{TakesAtMost, KnownAlike}
use Rattle.pv_io.specs.declared.read_end.ReadEnd.{ReadEnd}
use Rattle.pv_io.specs.declared.read_end.ReadEnd.TheVariants.{Failed, NoMemory, TooLong}
use Rattle.pv_io.specs.declared.reading.TheConstants.{PIECE}
use Rattle.pv_io.specs.declared.source.Source.{Ghosts}

module _ {R : Type 0} (source : Ghosts R) where
  -- All that the source had left was read, and is no longer than the limit. `TooLong` is answered only where more than the
  -- limit was left, and `Failed` only where the failure was counted and no more than the limit had come. However it ends, no more
  -- than one piece beyond the limit was taken. Whether the bytes that are left are known stays. The count of faults never falls, and stays
  -- unless the answer is `Failed`.
  pub record ReadsAll (limit : ℕ) (old new : R) (result : Result (Vec ℕ) ReadEnd) : Type 0 where
    pub whole : IfOk result (λ bytes. (text : List ℕ) → source.left old ≡ Some text → (bytes.items ≡ text) × (source.left new ≡ Some []))
    -- what is answered is all that the reads of this call gave
    pub given : IfOk result (λ bytes. Appends (source.given old) (source.given new) bytes.items)
    -- where the bytes that are left aren't known that is kept, also before the first read, unless there was no memory
    pub kept : (IsErrOf result NoMemory → ⊥) → is_some (source.left old) ≡ false → (is_some (source.given old) ≡ true) × (is_some (source.given new) ≡ true)
    pub within : IfOk result (λ bytes. vec_len bytes ≤ limit)
    pub too_long : IsErrOf result TooLong → (text : List ℕ) → source.left old ≡ Some text → limit < length text
    pub too_much : IsErrOf result TooLong → (read : List ℕ) × Appends (source.given old) (source.given new) read × (limit < length read)
    pub fault : IsErrOf result Failed → Rose (source.faults old) (source.faults new)
    pub failed_within : IsErrOf result Failed → TakesAtMost (source.left old) (source.left new) limit
    pub taken : TakesAtMost (source.left old) (source.left new) (limit + PIECE)
    pub known : KnownAlike (source.left old) (source.left new)
    pub counted : source.faults old ≤ source.faults new
    pub uncounted : (IsErrOf result Failed → ⊥) → source.faults new ≡ source.faults old
