-- How the commands end that run a schedule or make one: what was read, what was written, what the bay keeps, and when each status comes.
use Rattle.std.specs.Bool.{⊤}
use Rattle.std.specs.Prelude.{◌≡◌, ◌≢◌, ℕ, ◌≤◌, true, false, List, [], Some, is_some, Result, Ok, Err, OnErr, length}
use Rattle.std.specs.Io.KnownBytes.{Appends}
use Rattle.pv_base.specs.Fault.{Rose}
use Rattle.pv_base.specs.declared.limits.TheConstants.{MAX_INPUT}
use Rattle.pv_disk.specs.BayModel.{BayModel}
use Rattle.pv_io.specs.SinkEffects.{HasFailed, Writes, WritesAll, WritesNothing, WritesPrefix}
use Rattle.pv_io.specs.Stream.{TakesAtMost}
use Rattle.pv_io.specs.declared.read_end.ReadEnd.{ReadEnd}
use Rattle.pv_io.specs.declared.read_end.ReadEnd.TheVariants as why
use Rattle.pv_io.specs.declared.sink.Sink as sinks
use Rattle.pv_io.specs.declared.source.Source as sources
use Rattle.pv_model.specs.Events.{Schedule}
use Rattle.pv_model.specs.Schedule.{IsSchedule}
use Rattle.pv_run.specs.Headline.{KeepsPromises}
use Rattle.pv_run.specs.InputAnswers.{Answers, GivesUpOr, IsRunAnswer, IsSummaryAnswer, written_of, written_within}
use Rattle.pv_run.specs.KeptDisks.{KeepsSites, last_world}
use Rattle.pv_run.specs.Statuses.{big_status, run_status}
use Rattle.pv_run.specs.Summary.{summary_of}
use Rattle.pv_run.specs.WriteEndView.{IsWriteFault}
use Rattle.pv_run.specs.declared.form.Form.{Form}
use Rattle.pv_run.specs.declared.status.Status.{Status}
use Rattle.pv_run.specs.declared.status.Status.TheVariants.{Done, SentLimit}
use Rattle.pv_run.specs.declared.text_end.LongText.{LongText}
use Rattle.pv_run.specs.declared.text_end.TextEnd.{TextEnd}
use Rattle.pv_run.specs.declared.text_end.TextEnd.TheVariants as text
use Rattle.pv_run.specs.declared.write_end.WriteEnd.{WriteEnd}
use Rattle.pv_script.specs.Generated.{made_text}
use Rattle.pv_site.specs.SiteState.{setup_of}

-- What a run answers to this input.
module _ {W B : Type 0} (sink : sinks.Ghosts W) (M : BayModel B) (form : Form) (before after : W) (old new : B) (status : Status) where
  pub record AnswersRun (input : List ℕ) : Type 0 where
    -- The headline. Whatever schedule the input is, and in whatever writes and syncs its sites stop or fail, its run keeps the promises.
    pub promises : (schedule : Schedule) → IsSchedule input schedule → KeepsPromises (setup_of schedule.catalog) schedule.events
    -- It is done only where the input is a schedule, and exactly what there is to be written of its run was.
    pub done : status ≡ Done → (schedule : Schedule) × IsSchedule input schedule × Writes sink before after (written_of form input schedule)
    -- However it ends, what was written of a schedule is a beginning of exactly that.
    pub prefix : (schedule : Schedule) → IsSchedule input schedule → WritesPrefix sink before after (written_of form input schedule)
    -- Where it is done that is the whole.
    pub whole : (schedule : Schedule) → IsSchedule input schedule → status ≡ Done → Writes sink before after (written_of form input schedule)
    -- At `SentLimit` it is all up to the event in which the messages pass the limit.
    pub limit : (schedule : Schedule) → IsSchedule input schedule → status ≡ SentLimit → Writes sink before after (written_within form input schedule)
    -- It gave up, or wrote the input's one answer, whose status this is: `IsRunAnswer` says when each comes.
    pub answered : Answers sink (written_of form input) (written_within form input) input status before after
    -- Whatever the answer to the input is, it gave up or ended with the status of that, and wrote a beginning of it. Where that is empty, no write has failed.
    pub exact : (answer : Status) (output : List ℕ) → IsRunAnswer form input answer output → GivesUpOr sink status answer output before after
    -- Where it is done the bay keeps a disk for each site of the run's last world, which holds the site's log there.
    pub kept : status ≡ Done → (schedule : Schedule) → IsSchedule input schedule → KeepsSites M old new (last_world schedule).sites

-- The input is what the source gave: all that it had left, where it tells that, and all that the reads have given since. One of the two is told.
module _ {R : Type 0} (source : sources.Ghosts R) (unread left : R) (input : List ℕ) where
  pub record WasRead : Type 0 where
    pub whole : (text : List ℕ) → source.left unread ≡ Some text → input ≡ text
    pub given : Appends (source.given unread) (source.given left) input
    pub told : is_some (source.left unread) ≡ false → (is_some (source.given unread) ≡ true) × (is_some (source.given left) ≡ true)

-- How `run`, `json` and `trace` end: as the text does that was read, or with why none was.
module _ {R W B : Type 0} (source : sources.Ghosts R) (sink : sinks.Ghosts W) (M : BayModel B) (form : Form) (unread left : R) (before after : W) (old new : B)
    (ended : Result TextEnd ReadEnd) where
  pub record EndsRun : Type 0 where
    -- Where the source tells its bytes, what is answered to them, with the headline.
    pub answers : (input : List ℕ) → source.left unread ≡ Some input → AnswersRun sink M form before after old new (run_status ended) input
    -- Where the input was read, all that was read of it is answered so, whether or not the source tells its bytes. Where the run is done the bay was given its disks to keep.
    pub given : (end : TextEnd) → ended ≡ Ok end → (input : List ℕ) × WasRead source unread left input × AnswersRun sink M form before after old new (run_status ended) input
    -- Where it is done, the whole input was read.
    pub read : ended ≡ Ok text.Done → (input : List ℕ) → source.left unread ≡ Some input → source.left left ≡ Some []
    -- It gives up for the input only where a fault of it was counted, before more than the limit had come, and then nothing was written.
    pub read_fault : ended ≡ Err why.Failed →
        Rose (source.faults unread) (source.faults left) × TakesAtMost (source.left unread) (source.left left) MAX_INPUT × WritesNothing sink before after
    -- And for the output only where a fault of that was counted, and the input is no longer than it may be.
    pub write_fault : ended ≡ Ok text.WriteFault → HasFailed sink before after × ((input : List ℕ) → source.left unread ≡ Some input → length input ≤ MAX_INPUT)
    -- Of an input that is too long nothing was written.
    pub too_long : ended ≡ Err why.TooLong → WritesNothing sink before after
    -- And none was where there was no memory for it.
    pub no_memory : ended ≡ Err why.NoMemory → WritesNothing sink before after
    -- The source's count of faults stays, unless it gives up for the input.
    pub unfailed : ended ≢ Err why.Failed → source.faults left ≡ source.faults unread
    -- Unless it is done, the bay is as it was.
    pub alone : ended ≢ Ok text.Done → new ≡ old

-- How `make` ends: with the whole schedule of this number written, or with why it wasn't.
module _ {W : Type 0} (sink : sinks.Ghosts W) (n : ℕ) (before after : W) (ended : Result ⊤ WriteEnd) where
  abbrev pub EndsMake : Type 0
  EndsMake = WritesAll sink IsWriteFault before after (made_text n) ended

-- How `big` ends: as the made text does, or since that is longer than a text may be.
module _ {W : Type 0} (sink : sinks.Ghosts W) (n : ℕ) (before after : W) (ended : Result TextEnd LongText) where
  pub record EndsBig : Type 0 where
    -- It gave up, or wrote the one answer to the made schedule, whose status this is: `IsSummaryAnswer` says when each comes.
    pub answered : Answers sink summary_of (λ schedule. []) (made_text n) (big_status ended) before after
    -- Whatever the answer is, it gave up or ended with the status of that, and wrote a beginning of it. Where that is empty, no write has failed.
    pub exact : (answer : Status) (output : List ℕ) → IsSummaryAnswer (made_text n) answer output → GivesUpOr sink (big_status ended) answer output before after
    -- It gives up for the output only where a fault of that was counted.
    pub write_fault : ended ≡ Ok text.WriteFault → HasFailed sink before after
    -- Of a schedule that is too long nothing was written.
    pub too_long : OnErr ended (WritesNothing sink before after)
