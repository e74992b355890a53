-- The text of a trace: of each event the line of the schedule that it is and the lines that it prints, behind the lines that declare something.
use Rattle.std.specs.Prelude.{ℕ, ◌-◌, Option, Some, None, List, [], ◌∷◌, ◌++◌, length, take, drop, flat_map, codes}
use Rattle.pv_base.specs.Catalog.{Declared}
use Rattle.pv_base.specs.declared.limits.TheConstants.{MAX_SENT}
use Rattle.pv_model.specs.Events.{Event, Schedule}
use Rattle.pv_model.specs.LineCauses.{Before, at_first}
use Rattle.pv_model.specs.LineForms.{after_blanks, before_blanks, scheduled}
use Rattle.pv_model.specs.ReplyText.{line_feed}
use Rattle.pv_model.specs.Schedule.{Declares, IsEvent, significant, with_event}
use Rattle.pv_model.specs.Text.{TextLine}
use Rattle.pv_protocol.specs.Limit.{over_limit}
use Rattle.pv_protocol.specs.LineText.{text_of}
use Rattle.pv_protocol.specs.Lines.{Line}
use Rattle.pv_protocol.specs.Run.{lines_of_transitions, transitions_of, world_after}
use Rattle.pv_protocol.specs.State.{Setup}
use Rattle.pv_protocol.specs.World.{World, opening}
use Rattle.pv_run.specs.Forms.{lines_in}
use Rattle.pv_run.specs.declared.form.Form.{Form}
use Rattle.pv_run.specs.declared.form.Form.TheVariants.{Text, Json, Trace}
use Rattle.pv_site.specs.SiteState.{setup_of}

-- what stands before each line of the schedule: `>` and a space
abbrev pub prompt : List ℕ
prompt = codes "> "

-- a line of the schedule as a trace has it, without the blanks at its ends
abbrev pub said_text : TextLine → List ℕ
said_text line = prompt ++ (before_blanks (after_blanks line) ++ line_feed)

-- several, one after another
abbrev pub said_texts : List TextLine → List ℕ
said_texts lines = flat_map said_text lines

-- the first of them, where there is one
abbrev pub first_said : List TextLine → List ℕ
first_said [] = []
first_said (line ∷ lines) = said_text line

-- The lines of a schedule's text that are written: those of a trace.
abbrev pub said_in : Form → List ℕ → List TextLine
said_in Text text = []
said_in Json text = []
said_in Trace text = significant text

-- How many of a schedule's lines declare something. Its events are the lines behind these, each of them one.
abbrev pub declaring : List TextLine → List Event → ℕ
declaring said events = length said - length events

-- an event: the next line of the schedule, where one is left, and the lines that it prints
abbrev pub event_text : Form → Declared → List TextLine → List Line → List ℕ
event_text form catalog said lines = first_said said ++ lines_in form catalog lines

-- events, whose lines in the schedule are these, from this world on
abbrev pub text_from : Form → Setup → World → List TextLine → List Event → List ℕ
text_from form setup world said [] = []
text_from form setup world said (event ∷ events) =
    let now = transitions_of setup world event in
    event_text form setup.catalog said (lines_of_transitions now) ++ text_from form setup (world_after world now) (drop 1 said) events

-- nothing where the limit is passed
abbrev pub text_unless : Option ℕ → List ℕ → List ℕ
text_unless (Some total) text = []
text_unless None text = text

-- The same under the limit on bytes. An event in which it is passed isn't written, and none behind it.
abbrev pub text_within : Form → ℕ → Setup → World → List TextLine → List Event → List ℕ
text_within form limit setup world said [] = []
text_within form limit setup world said (event ∷ events) =
    let now = transitions_of setup world event in
    let after = world_after world now in
    text_unless (over_limit limit after)
    (event_text form setup.catalog said (lines_of_transitions now) ++ text_within form limit setup after (drop 1 said) events)

-- the trace of the run of a schedule, whose text this is
unfoldable pub trace_of : List ℕ → Schedule → List ℕ
trace_of text schedule =
    let setup = setup_of schedule.catalog in
    let said = significant text in
    let front = declaring said schedule.events in
    said_texts (take front said) ++ text_from Trace setup (opening setup) (drop front said) schedule.events

-- and what there is of it within the limit
unfoldable pub trace_within : List ℕ → Schedule → List ℕ
trace_within text schedule =
    let setup = setup_of schedule.catalog in
    let said = significant text in
    let front = declaring said schedule.events in
    said_texts (take front said) ++ text_within Trace MAX_SENT setup (opening setup) (drop front said) schedule.events

-- The same line by line: this is the trace of the lines from here on, in this world and after what was said. A line that declares something stands alone, and
-- below an event stands what that prints.
pub data IsTracedFrom (setup : Setup) : World → Before → List TextLine → List ℕ → Type 0 where
  none : (world : World) (before : Before) → IsTracedFrom setup world before [] []
  declaration : (world : World) (before after : Before) (line : TextLine) (lines : List TextLine) (text : List ℕ) → Declares before line after
      → IsTracedFrom setup world after lines text → IsTracedFrom setup world before (line ∷ lines) (said_text line ++ text)
  event : (world : World) (before : Before) (line : TextLine) (event : Event) (lines : List TextLine) (text : List ℕ) → IsEvent before line event
      → IsTracedFrom setup (world_after world (transitions_of setup world event)) (with_event before) lines text
      → IsTracedFrom setup world before (line ∷ lines) ((said_text line ++ text_of setup.catalog (lines_of_transitions (transitions_of setup world event))) ++ text)

-- The text is the trace of the schedule that this input is.
abbrev pub IsTraced : Setup → List ℕ → List ℕ → Type 0
IsTraced setup input text = IsTracedFrom setup (opening setup) (at_first scheduled) (significant input) text
