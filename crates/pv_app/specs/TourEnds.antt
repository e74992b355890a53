-- How a tour of the disks of a bay ends, `show` or `upgrade`: what was read, what was written, what was done with the disks, and when each status comes.
use Rattle.std.specs.Bool.{⊤}
use Rattle.std.specs.Prelude.{◌≡◌, ◌≢◌, ℕ, ◌≤◌, ◌<◌, List, [], Some, Result, Ok, Err, OnErr, length}
use Rattle.pv_base.specs.Catalog.{Declared}
use Rattle.pv_base.specs.Fault.{Rose}
use Rattle.pv_base.specs.declared.limits.TheConstants.{MAX_INPUT, MAX_SITES}
use Rattle.pv_app.specs.declared.tour.Tour.{Tour}
use Rattle.pv_app.specs.declared.tour.Tour.TheVariants.{Show, Upgrade}
use Rattle.pv_app.specs.declared.tour_end.TourEnd.{TourEnd}
use Rattle.pv_app.specs.declared.tour_end.TourEnd.TheVariants.{Done, Malformed, WriteFault, NoMemory, BayFault}
use Rattle.pv_disk.specs.BayModel.{BayModel}
use Rattle.pv_io.specs.SinkEffects.{HasFailed, Writes, WritesNothing, WritesPrefix}
use Rattle.pv_io.specs.Stream.{TakesAtMost}
use Rattle.pv_io.specs.declared.read_end.ReadEnd.{ReadEnd}
use Rattle.pv_io.specs.declared.read_end.ReadEnd.TheVariants as why
use Rattle.pv_io.specs.declared.sink.Sink as sinks
use Rattle.pv_io.specs.declared.source.Source as sources
use Rattle.pv_disk_model.specs.Calls.{OnlyReads}
use Rattle.pv_disk_model.specs.DiskModel.{DiskModel}
use Rattle.pv_model.specs.LineCauses.{LineCause}
use Rattle.pv_model.specs.LiveScript.{LiveScript}
use Rattle.pv_model.specs.Schedule.{IsLiveScript, IsMalformedLiveScript}
use Rattle.pv_run.specs.Ends.{WasRead}
use Rattle.pv_run.specs.InputAnswers.{GivesUpOr, fault_text}
use Rattle.pv_run.specs.Statuses.{unread_status}
use Rattle.pv_run.specs.declared.status.Status.{Status}
use Rattle.pv_run.specs.declared.status.Status.TheVariants as status
use Rattle.pv_run.specs.declared.write_end.WriteEnd.{WriteEnd}
use Rattle.pv_run.specs.declared.write_end.WriteEnd.TheVariants as unwritten
use Rattle.pv_show.specs.Bays.{UsesDisks}
use Rattle.pv_show.specs.Showing.{ShowsAll}
use Rattle.pv_upgrade.specs.Keeping.{KeepsRecords}
use Rattle.pv_upgrade.specs.Upgrading.{UpgradesAll}

-- the status of a tour
abbrev pub tour_status : Result TourEnd ReadEnd → Status
tour_status (Ok Done) = status.Done
tour_status (Ok Malformed) = status.Malformed
tour_status (Ok WriteFault) = status.WriteFault
tour_status (Ok NoMemory) = status.NoMemory
tour_status (Ok BayFault) = status.BayFault
tour_status (Err end) = unread_status end

-- how a tour ends for the text of which this is the refusal
abbrev pub end_of_refusal : Result ⊤ WriteEnd → TourEnd
end_of_refusal (Ok all) = Malformed
end_of_refusal (Err unwritten.WriteFault) = WriteFault
end_of_refusal (Err unwritten.NoMemory) = NoMemory

-- What a tour does with each disk: `show` only reads it, and `upgrade` keeps its records at each moment.
abbrev pub IsUseOf : {V : Type 0} → DiskModel V → Tour → V → V → Type 0
IsUseOf D Show = OnlyReads D.goes
IsUseOf D Upgrade = KeepsRecords D

-- What the tour of all disks of the catalog's sites does with them, and what the text tells of it.
abbrev pub Tells : {B V : Type 0} → BayModel B → DiskModel V → Tour → Declared → B → B → List ℕ → Type 0
Tells M D Show catalog old new text = ShowsAll M D catalog old new text
Tells M D Upgrade catalog old new text = UpgradesAll M D catalog old new text

module _ {B V W : Type 0} (M : BayModel B) (D : DiskModel V) (sink : sinks.Ghosts W) (tour : Tour) (catalog : Declared) (old new : B) (before after : W) where
  -- What was written, where the text declares this catalog: what tells of each site, or a beginning of it where the output failed; and nothing where the
  -- bay failed, or where there was no memory.
  abbrev pub TellsOfSites : TourEnd → Type 0
  TellsOfSites Done = (text : List ℕ) × Tells M D tour catalog old new text × Writes sink before after text
  TellsOfSites WriteFault = (text : List ℕ) × Tells M D tour catalog old new text × WritesPrefix sink before after text
  TellsOfSites BayFault = Rose (M.faults old) (M.faults new) × WritesNothing sink before after
  TellsOfSites NoMemory = WritesNothing sink before after
  TellsOfSites Malformed = ⊥

  -- So it is of an input that is no longer than it may be. Where that wasn't read, there was no tour.
  abbrev pub TellsOfInput : Result TourEnd ReadEnd → Type 0
  TellsOfInput (Ok end) = TellsOfSites end
  TellsOfInput (Err why.Failed) = (new ≡ old) × WritesNothing sink before after
  TellsOfInput (Err why.NoMemory) = (new ≡ old) × WritesNothing sink before after
  TellsOfInput (Err why.TooLong) = ⊥

module _ {W B V : Type 0} (sink : sinks.Ghosts W) (M : BayModel B) (D : DiskModel V) (tour : Tour) (before after : W) (old new : B) (ended : Result TourEnd ReadEnd) where
  -- What is told to this input.
  pub record AnswersTour (input : List ℕ) : Type 0 where
    -- Of a live script, what tells of the disk of each of its sites was written.
    pub told : length input ≤ MAX_INPUT → (script : LiveScript) → IsLiveScript input script → TellsOfInput M D sink tour script.catalog old new before after ended
    -- Another input has its first line at fault for an answer, and then the bay is as it was.
    pub refused : length input ≤ MAX_INPUT → (number : ℕ) (cause : LineCause) → IsMalformedLiveScript input number cause →
        GivesUpOr sink (tour_status ended) status.Malformed (fault_text number cause) before after × (new ≡ old)
        × (ended ≡ Ok Malformed → Writes sink before after (fault_text number cause))
    -- So it is where the input is too long. Nothing is written then, and no write has failed.
    pub long : MAX_INPUT < length input → GivesUpOr sink (tour_status ended) status.TooLong [] before after × (new ≡ old)
    -- It is done only where the input is a live script.
    pub done : ended ≡ Ok Done → (script : LiveScript) × IsLiveScript input script
    -- It is `Malformed` only where the input is.
    pub malformed : ended ≡ Ok Malformed → (number : ℕ) × (cause : LineCause) × IsMalformedLiveScript input number cause
    -- However it ends, only disks of sites that the script declares were handed out.
    pub only_declared : (script : LiveScript) → IsLiveScript input script → UsesDisks M D (IsUseOf D tour) script.catalog.sites old new

-- How a tour ends: as it ends for what the text declares that was read, or with why none was read.
module _ {R W B V : Type 0} (source : sources.Ghosts R) (sink : sinks.Ghosts W) (M : BayModel B) (D : DiskModel V) (tour : Tour) (unread left : R) (before after : W) (old new : B)
    (ended : Result TourEnd ReadEnd) where
  pub record EndsTour : Type 0 where
    -- Where the source tells its bytes, what is told to them.
    pub answers : (input : List ℕ) → source.left unread ≡ Some input → AnswersTour sink M D tour before after old new ended input
    -- Where the input was read, all that was read of it is answered so, whether or not the source tells its bytes.
    pub given : (end : TourEnd) → ended ≡ Ok end → (input : List ℕ) × WasRead source unread left input × AnswersTour sink M D tour before after old new ended input
    -- Where it is done, the whole input was read.
    pub read : ended ≡ Ok Done → (input : List ℕ) → source.left unread ≡ Some input → source.left left ≡ Some []
    -- However it ends, disks were only used so.
    pub uses : UsesDisks M D (IsUseOf D tour) MAX_SITES old new
    -- Where the input wasn't read, or is malformed, the bay is as it was.
    pub alone : OnErr ended (new ≡ old) × (ended ≡ Ok Malformed → new ≡ old)
    -- The bay's own failure ends it only where that was counted, and then nothing was written.
    pub bay_fault : ended ≡ Ok BayFault → Rose (M.faults old) (M.faults new) × WritesNothing sink before after
    -- It gives up for the input only where a fault of it was counted, before more than the limit had come, and then nothing was written.
    pub read_fault : ended ≡ Err why.Failed →
        Rose (source.faults unread) (source.faults left) × TakesAtMost (source.left unread) (source.left left) MAX_INPUT × WritesNothing sink before after
    -- And for the output only where a fault of that was counted.
    pub write_fault : ended ≡ Ok WriteFault → HasFailed sink before after
    -- Of an input that is too long nothing was written.
    pub too_long : ended ≡ Err why.TooLong → WritesNothing sink before after
    -- The source's count of faults stays, unless it gives up for the input.
    pub unfailed : ended ≢ Err why.Failed → source.faults left ≡ source.faults unread
