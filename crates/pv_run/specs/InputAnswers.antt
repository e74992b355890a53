-- What the program has to answer.
use Rattle.std.specs.Prelude.{◌≡◌, ◌≢◌, ◌⊎◌, ℕ, ◌<◌, ◌≤◌, List, [], ◌++◌, length, Option, Some, None}
use Rattle.std.specs.Io.KnownBytes.{Appends}
use Rattle.pv_base.specs.declared.limits.TheConstants.{MAX_INPUT, MAX_SENT}
use Rattle.pv_io.specs.SinkEffects.{WritesPrefix}
use Rattle.pv_io.specs.declared.sink.Sink.{Ghosts}
use Rattle.pv_run.specs.declared.status.Status.{Status}
use Rattle.pv_run.specs.declared.status.Status.TheVariants.{Done, Usage, Malformed, ReadFault, WriteFault, TooLong, NoMemory, SentLimit, BayFault, NotEmpty, Refuted, Limit}
use Rattle.pv_model.specs.LineCauses.{LineCause}
use Rattle.pv_model.specs.Events.{Schedule}
use Rattle.pv_script.specs.CauseTexts.{refused_text}
use Rattle.pv_run.specs.Forms.{lines_in}
use Rattle.pv_run.specs.Traced.{trace_of, trace_within}
use Rattle.pv_run.specs.declared.form.Form.{Form}
use Rattle.pv_run.specs.declared.form.Form.TheVariants.{Text, Json, Trace}
use Rattle.pv_model.specs.ReplyText.{line_feed}
use Rattle.pv_model.specs.Schedule.{IsSchedule, IsMalformedSchedule}
use Rattle.pv_protocol.specs.Limit.{Output, run_within}
use Rattle.pv_protocol.specs.Run.{printed}
use Rattle.pv_protocol.specs.World.{opening}
use Rattle.pv_site.specs.SiteState.{setup_of}
use Rattle.pv_run.specs.Summary.{summary_of}

-- what is written of an input that is refused at this line
unfoldable pub fault_text : ℕ → LineCause → List ℕ
fault_text number cause = refused_text number cause ++ line_feed

-- what a schedule prints before its messages have more bytes together than they may, and how many they have then, if they do
unfoldable pub within_limit : Schedule → Output
within_limit schedule = let setup = setup_of schedule.catalog in run_within MAX_SENT setup (opening setup) schedule.events

-- all that the run of a schedule prints, in this form
unfoldable pub output_of : Form → Schedule → List ℕ
output_of form schedule = lines_in form schedule.catalog (printed (setup_of schedule.catalog) schedule.events)

-- what it prints within the limit
abbrev pub output_within : Form → Schedule → List ℕ
output_within form schedule = lines_in form schedule.catalog (within_limit schedule).lines

-- all that is written of it, where the schedule is this text, whose lines a trace has too
abbrev pub written_of : Form → List ℕ → Schedule → List ℕ
written_of Text text schedule = output_of Text schedule
written_of Json text schedule = output_of Json schedule
written_of Trace text schedule = trace_of text schedule

-- and what is written of it within the limit
abbrev pub written_within : Form → List ℕ → Schedule → List ℕ
written_within Text text schedule = output_within Text schedule
written_within Json text schedule = output_within Json schedule
written_within Trace text schedule = trace_within text schedule

-- What has to be answered to a text that is to be a schedule, and the status with it. Where it is one, that is the `whole` of its run; where the
-- messages of an event pass the limit, what there is of it `within` the limit. Where it is malformed, it is the first line at fault and why. To a text
-- that is longer than it may be it is nothing at all.
abbrev pub IsAnswer : (whole within : Schedule → List ℕ) → List ℕ → Status → List ℕ → Type 0
IsAnswer whole within input Done output =
    (length input ≤ MAX_INPUT) × (schedule : Schedule) × IsSchedule input schedule × ((within_limit schedule).over ≡ None) × (output ≡ whole schedule)
IsAnswer whole within input SentLimit output =
    (length input ≤ MAX_INPUT) × (schedule : Schedule) × IsSchedule input schedule × (total : ℕ) × ((within_limit schedule).over ≡ Some total)
    × (output ≡ within schedule)
IsAnswer whole within input Malformed output =
    (length input ≤ MAX_INPUT) × (number : ℕ) × (cause : LineCause) × IsMalformedSchedule input number cause × (output ≡ fault_text number cause)
IsAnswer whole within input TooLong output = (MAX_INPUT < length input) × (output ≡ [])
IsAnswer whole within input _ output = ⊥

-- What a run answers to its input: what is written of the run in this form, and of the events before the limit is passed.
abbrev pub IsRunAnswer : Form → List ℕ → Status → List ℕ → Type 0
IsRunAnswer form input = IsAnswer (written_of form input) (written_within form input) input

-- What is answered to a made schedule: the summary of its run, and nothing where the limit is passed.
abbrev pub IsSummaryAnswer : List ℕ → Status → List ℕ → Type 0
IsSummaryAnswer = IsAnswer summary_of (λ schedule. [])

-- It gives up where something outside failed, or out of memory.
abbrev pub GivesUp : Status → Type 0
GivesUp ReadFault = Unit {0}
GivesUp WriteFault = Unit {0}
GivesUp NoMemory = Unit {0}
GivesUp _ = ⊥

-- Known bytes have grown by an output of which this holds, and by nothing else.
abbrev pub GrowsBySome : Option (List ℕ) → Option (List ℕ) → (List ℕ → Type 0) → Type 0
GrowsBySome old new Holds = (output : List ℕ) × Appends old new output × Holds output

module _ {W : Type 0} (sink : Ghosts W) where
  -- It gave up, or the sink has taken the text's answer, whose status this is.
  abbrev pub Answers : (whole within : Schedule → List ℕ) → List ℕ → Status → W → W → Type 0
  Answers whole within input status old new = GivesUp status ⊎ GrowsBySome (sink.held old) (sink.held new) (IsAnswer whole within input status)

  -- It gave up, or answered with this status and a beginning of this output. Where that is empty, no write has failed.
  abbrev pub GivesUpOr : Status → Status → List ℕ → W → W → Type 0
  GivesUpOr result status output old new = (GivesUp result ⊎ (result ≡ status)) × WritesPrefix sink old new output × (result ≡ WriteFault → output ≢ [])

-- the exit code of a status
abbrev pub exit_code : Status → ℕ
exit_code Done = 0
exit_code Usage = 2
exit_code Malformed = 3
exit_code ReadFault = 4
exit_code WriteFault = 5
exit_code TooLong = 6
exit_code NoMemory = 7
exit_code SentLimit = 8
exit_code BayFault = 9
exit_code NotEmpty = 10
exit_code Refuted = 11
exit_code Limit = 12
