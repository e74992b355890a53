-- How `live` ends: what was read, what was written, what was done with the bay's disks, and when each status comes.
use Rattle.std.specs.Bool.{⊤}
use Rattle.std.specs.Prelude.{◌≡◌, ◌≢◌, ℕ, ◌≤◌, ◌<◌, List, [], Some, Result, Ok, Err, OnErr, length}
use Rattle.pv_base.specs.Catalog.{Declared}
use Rattle.pv_base.specs.Fault.{Rose}
use Rattle.pv_base.specs.declared.limits.TheConstants.{MAX_INPUT}
use Rattle.pv_disk.specs.BayModel.{BayModel}
use Rattle.pv_disk_model.specs.DiskModel.{DiskModel}
use Rattle.pv_io.specs.SinkEffects.{HasFailed, Writes, WritesNothing, WritesPrefix}
use Rattle.pv_io.specs.Stream.{TakesAtMost}
use Rattle.pv_io.specs.declared.read_end.ReadEnd.{ReadEnd}
use Rattle.pv_io.specs.declared.read_end.ReadEnd.TheVariants as why
use Rattle.pv_io.specs.declared.sink.Sink as sinks
use Rattle.pv_io.specs.declared.source.Source as sources
use Rattle.pv_launch.specs.Launching.{IsRefused}
use Rattle.pv_launch.specs.declared.not_launched.NotLaunched.{NotLaunched}
use Rattle.pv_launch.specs.declared.not_launched.NotLaunched.TheVariants as unlaunched
use Rattle.pv_model.specs.LineCauses.{LineCause}
use Rattle.pv_model.specs.LiveScript.{LiveScript}
use Rattle.pv_run.specs.Ends.{WasRead}
use Rattle.pv_run.specs.InputAnswers.{GivesUpOr, fault_text}
use Rattle.pv_run.specs.Statuses.{unread_status}
use Rattle.pv_run.specs.declared.status.Status.{Status}
use Rattle.pv_run.specs.declared.status.Status.TheVariants as status
use Rattle.pv_run.specs.declared.write_end.WriteEnd.{WriteEnd}
use Rattle.pv_run.specs.declared.write_end.WriteEnd.TheVariants as unwritten
use Rattle.pv_show.specs.Bays.{IsAtRest}
use Rattle.pv_live.specs.Inputs.{IsRefusedText, IsScriptOfClients}
use Rattle.pv_live.specs.Lived.{IsElseUnchanged, KeepsFullDisks, Lives}
use Rattle.pv_live.specs.declared.live_end.LiveEnd.{LiveEnd}
use Rattle.pv_live.specs.declared.live_end.LiveEnd.TheVariants.{Done, Malformed, WriteFault, NoMemory, BayFault, NotEmpty}

-- the status of `live`
abbrev pub live_status : Result LiveEnd ReadEnd → Status
live_status (Ok Done) = status.Done
live_status (Ok Malformed) = status.Malformed
live_status (Ok WriteFault) = status.WriteFault
live_status (Ok NoMemory) = status.NoMemory
live_status (Ok BayFault) = status.BayFault
live_status (Ok NotEmpty) = status.NotEmpty
live_status (Err end) = unread_status end

-- how it ends to run the text of which this is the refusal
abbrev pub end_of_refusal : Result ⊤ WriteEnd → LiveEnd
end_of_refusal (Ok all) = Malformed
end_of_refusal (Err unwritten.WriteFault) = WriteFault
end_of_refusal (Err unwritten.NoMemory) = NoMemory

-- how it ends where no site runs, by why
abbrev pub end_of_launch : NotLaunched → LiveEnd
end_of_launch (unlaunched.NotEmpty site) = NotEmpty
end_of_launch unlaunched.BayFault = BayFault
end_of_launch (unlaunched.DiskFault site) = BayFault
end_of_launch (unlaunched.Misread site) = BayFault
end_of_launch unlaunched.NoMemory = NoMemory

module _ {B V : Type 0} (M : BayModel B) (D : DiskModel V) where
  -- No site of this catalog runs, for a cause with which it ends so. Each disk that was handed out is back, with no work on it that it hadn't.
  abbrev pub IsNotLaunched : Declared → (old new : B) → LiveEnd → Type 0
  IsNotLaunched catalog old new end = (why : NotLaunched) × (end_of_launch why ≡ end) × IsRefused M D catalog old new why

module _ {B V W : Type 0} (M : BayModel B) (D : DiskModel V) (sink : sinks.Ghosts W) (script : LiveScript) (old new : B) (before after : W) where
  -- What was written, and what became of the bay, where the text is this script: the text of a run, or a beginning of it where the output failed; and nothing where no site
  -- was launched, or where there was no memory. Where there was no memory disks that were empty may be out.
  abbrev pub RunsSites : LiveEnd → Type 0
  RunsSites Done = (text : List ℕ) × Lives M D script old new text × Writes sink before after text
  RunsSites WriteFault = (text : List ℕ) × Lives M D script old new text × WritesPrefix sink before after text
  RunsSites BayFault = IsNotLaunched M D script.catalog old new BayFault × WritesNothing sink before after
  RunsSites NotEmpty = IsNotLaunched M D script.catalog old new NotEmpty × WritesNothing sink before after
  RunsSites NoMemory = IsElseUnchanged M D script old new × KeepsFullDisks M D script old new × WritesNothing sink before after
  RunsSites Malformed = ⊥

  -- So it is of an input that is no longer than it may be. Where that wasn't read, nothing was done.
  abbrev pub RunsInput : Result LiveEnd ReadEnd → Type 0
  RunsInput (Ok end) = RunsSites end
  RunsInput (Err why.Failed) = (new ≡ old) × WritesNothing sink before after
  RunsInput (Err why.NoMemory) = (new ≡ old) × WritesNothing sink before after
  RunsInput (Err why.TooLong) = ⊥

module _ {W B V : Type 0} (sink : sinks.Ghosts W) (M : BayModel B) (D : DiskModel V) (before after : W) (old new : B) (ended : Result LiveEnd ReadEnd) where
  -- What is answered to this input.
  pub record AnswersLive (input : List ℕ) : Type 0 where
    -- A script with a client was run, and the text of its run was written.
    pub run : length input ≤ MAX_INPUT → (script : LiveScript) → IsScriptOfClients input script → RunsInput M D sink script old new before after ended
    -- Another input has its first line at fault for an answer, and then the bay is as it was.
    pub refused : length input ≤ MAX_INPUT → (number : ℕ) (cause : LineCause) → IsRefusedText input number cause →
        GivesUpOr sink (live_status ended) status.Malformed (fault_text number cause) before after × (new ≡ old)
        × (ended ≡ Ok Malformed → Writes sink before after (fault_text number cause))
    -- So it is where the input is too long. Nothing is written then, and no write has failed.
    pub long : MAX_INPUT < length input → GivesUpOr sink (live_status ended) status.TooLong [] before after × (new ≡ old)
    -- It is done only where the input is a script with a client, and so it is with what the bay refuses.
    pub done : ended ≡ Ok Done → (script : LiveScript) × IsScriptOfClients input script
    pub bay_fault : ended ≡ Ok BayFault → (script : LiveScript) × IsScriptOfClients input script
    pub not_empty : ended ≡ Ok NotEmpty → (script : LiveScript) × IsScriptOfClients input script
    -- It is `Malformed` only where the input is.
    pub malformed : ended ≡ Ok Malformed → (number : ℕ) × (cause : LineCause) × IsRefusedText input number cause

-- How `live` ends: as it ends to run what was read, or with why none was read.
module _ {R W B V : Type 0} (source : sources.Ghosts R) (sink : sinks.Ghosts W) (M : BayModel B) (D : DiskModel V) (unread left : R) (before after : W) (old new : B)
    (ended : Result LiveEnd ReadEnd) where
  pub record EndsLive : Type 0 where
    -- Where the source tells its bytes, what is answered to them.
    pub answers : (input : List ℕ) → source.left unread ≡ Some input → AnswersLive sink M D before after old new ended input
    -- Where the input was read, all that was read of it is answered so, whether or not the source tells its bytes.
    pub given : (end : LiveEnd) → ended ≡ Ok end → (input : List ℕ) × WasRead source unread left input × AnswersLive sink M D before after old new ended input
    -- Where it is done, the whole input was read.
    pub read : ended ≡ Ok Done → (input : List ℕ) → source.left unread ≡ Some input → source.left left ≡ Some []
    -- Unless it ends for want of memory, each disk that was handed out has been handed back.
    pub handed_back : ended ≢ Ok NoMemory → IsAtRest M old → IsAtRest M new
    -- Where the input wasn't read, or is malformed, the bay is as it was.
    pub alone : OnErr ended (new ≡ old) × (ended ≡ Ok Malformed → new ≡ old)
    -- It is for the bay only where no site was launched, and then nothing was written.
    pub bay_fault : ended ≡ Ok BayFault → (catalog : Declared) × IsNotLaunched M D catalog old new BayFault × WritesNothing sink before after
    pub not_empty : ended ≡ Ok NotEmpty → (catalog : Declared) × IsNotLaunched M D catalog old new NotEmpty × WritesNothing sink before after
    -- It gives up for the input only where a fault of it was counted, before more than the limit had come, and then nothing was written.
    pub read_fault : ended ≡ Err why.Failed →
        Rose (source.faults unread) (source.faults left) × TakesAtMost (source.left unread) (source.left left) MAX_INPUT × WritesNothing sink before after
    -- And for the output only where a fault of that was counted.
    pub write_fault : ended ≡ Ok WriteFault → HasFailed sink before after
    -- Of an input that is too long nothing was written.
    pub too_long : ended ≡ Err why.TooLong → WritesNothing sink before after
    -- The source's count of faults stays, unless it gives up for the input.
    pub unfailed : ended ≢ Err why.Failed → source.faults left ≡ source.faults unread
