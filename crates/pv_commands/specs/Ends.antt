-- How a command over a script ends: what was read, what was answered to it, and what of that was written.
use Rattle.std.specs.Prelude.{◌≡◌, ◌≢◌, ◌⊎◌, ℕ, List, [], Result, Ok, Err}
use Rattle.std.specs.Global.{Vec}
use Rattle.pv_base.specs.declared.limits.TheConstants.{MAX_INPUT}
use Rattle.pv_io.specs.SinkEffects.{HasFailed, Writes, WritesNothing, WritesPrefix}
use Rattle.pv_io.specs.SourceEffects.{ReadsAll}
use Rattle.pv_io.specs.declared.read_end.ReadEnd.{ReadEnd}
use Rattle.pv_io.specs.declared.sink.Sink as sinks
use Rattle.pv_io.specs.declared.source.Source as sources
use Rattle.pv_lines.specs.declared.end.ScriptEnd.{ScriptEnd}
use Rattle.pv_lines.specs.declared.end.ScriptEnd.TheVariants.{WriteFault, NoMemory}

module _ {W : Type 0} (sink : sinks.Ghosts W) (before after : W) where
  -- An answer was written, and the command ends as it is to; or the output failed, which was counted, and a beginning of the answer was written, which isn't empty.
  abbrev pub EndsWriting : List ℕ → ScriptEnd → ScriptEnd → Type 0
  EndsWriting answer whole end =
      ((end ≡ whole) × Writes sink before after answer)
      ⊎ ((end ≡ WriteFault) × WritesPrefix sink before after answer × (answer ≢ []) × HasFailed sink before after)

  -- What was written to this input, by how the command ended: the input's answer, or nothing where there was no memory. `IsAnswer` says of an input what the answer to it is, and how a
  -- command ends that writes all of it.
  abbrev pub Answered : (IsAnswer : List ℕ → ScriptEnd → List ℕ → Type 0) → List ℕ → ScriptEnd → Type 0
  Answered IsAnswer input end =
      ((end ≡ NoMemory) × WritesNothing sink before after)
      ⊎ ((whole : ScriptEnd) × (answer : List ℕ) × IsAnswer input whole answer × EndsWriting answer whole end)

  -- The input was read and answered, or it wasn't read, and nothing was written.
  abbrev pub EndsBy : (IsAnswer : List ℕ → ScriptEnd → List ℕ → Type 0) → Result (Vec ℕ) ReadEnd → Result ScriptEnd ReadEnd → Type 0
  EndsBy IsAnswer (Ok input) (Ok end) = Answered IsAnswer input.items end
  EndsBy IsAnswer (Err why) (Err other) = (other ≡ why) × WritesNothing sink before after
  EndsBy IsAnswer _ _ = ⊥

-- A command read its input, as `ReadsAll` says, and ended by that.
module _ {R W : Type 0} (source : sources.Ghosts R) (sink : sinks.Ghosts W) (IsAnswer : List ℕ → ScriptEnd → List ℕ → Type 0) (unread left : R) (before after : W)
    (ended : Result ScriptEnd ReadEnd) where
  pub record EndsScript : Type 0 where
    pub reading : Result (Vec ℕ) ReadEnd
    pub read : ReadsAll source MAX_INPUT unread left reading
    pub ends : EndsBy sink before after IsAnswer reading ended
