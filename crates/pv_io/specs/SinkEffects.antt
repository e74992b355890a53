-- What is written to a sink.
use Rattle.std.specs.Prelude.{◌≡◌, ◌≢◌, ℕ, ◌≤◌, List, [], Result, OnOk, OnErr, IfErr}
use Rattle.std.specs.Io.KnownBytes.{Appends, Keeps}
use Rattle.pv_base.specs.Fault.{Rose}
use Rattle.pv_io.specs.Stream.{AppendsPrefix, KnownAlike}
use Rattle.pv_io.specs.declared.sink.Sink.{Ghosts}

module _ {W : Type 0} (sink : Ghosts W) where
  -- The sink has taken the whole text.
  abbrev pub Writes : W → W → List ℕ → Type 0
  Writes old new text = Appends (sink.held old) (sink.held new) text

  -- It has taken a beginning of the text.
  abbrev pub WritesPrefix : W → W → List ℕ → Type 0
  WritesPrefix old new text = AppendsPrefix (sink.held old) (sink.held new) text

  -- It has taken nothing.
  abbrev pub WritesNothing : W → W → Type 0
  WritesNothing old new = Keeps (sink.held old) (sink.held new)

  -- A fault of the sink was counted.
  abbrev pub HasFailed : W → W → Type 0
  HasFailed old new = Rose (sink.faults old) (sink.faults new)

  -- The sink has taken the whole text, or after an error a beginning of it. An error that is a fault was counted. Whether its
  -- bytes are known stays, and its count of faults never falls. For no bytes the sink isn't called: it is as it was, and no error
  -- is a fault.
  pub record WritesAll {X E : Type 0} (IsFault : E → Type 0) (old new : W) (text : List ℕ) (result : Result X E) : Type 0 where
    pub written : OnOk result (Writes old new text)
    pub prefix : OnErr result (WritesPrefix old new text)
    pub known : KnownAlike (sink.held old) (sink.held new)
    pub fault : IfErr result (λ e. IsFault e → HasFailed old new)
    pub counted : sink.faults old ≤ sink.faults new
    pub none : text ≡ [] → new ≡ old
    pub some : IfErr result (λ e. IsFault e → text ≢ [])
