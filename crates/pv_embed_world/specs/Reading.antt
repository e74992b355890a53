-- What is read of the text of a catalog, and of a line behind it, and why another text or line is refused.
use Rattle.std.specs.Prelude.{◌≡◌, ◌≢◌, ◌<◌, ◌≤◌, ℕ, Result, Ok, Err, List, [], ◌∷◌, length, ⊤}
use Rattle.pv_base.specs.Catalog.{Declared}
use Rattle.pv_base.specs.declared.limits.TheConstants.{MAX_INPUT}
use Rattle.pv_model.specs.Events.{Event, Schedule}
use Rattle.pv_model.specs.Schedule.{IsSchedule, IsMalformedSchedule}
use Rattle.pv_script.specs.Behind.{Declaring, schedule_over, with_line}
use Rattle.pv_script.specs.ScheduleView.{event_of, HasPlan}
use Rattle.pv_script.specs.ScriptErrors.{line_cause_of}
use Rattle.pv_script.specs.declared.schedule.Event as code
use Rattle.pv_embed_world.specs.declared.fault.WorldFault.{WorldFault}
use Rattle.pv_embed_world.specs.declared.fault.WorldFault.TheVariants.{TooLong, Malformed, HasEvents, NotOneEvent, NoMemory}

-- It is no longer than an input may be.
abbrev pub IsShort : List ℕ → Type 0
IsShort text = length text ≤ MAX_INPUT

-- Why a text isn't that of a catalog.
abbrev pub RefusesCatalog : List ℕ → WorldFault → Type 0
RefusesCatalog text TooLong = MAX_INPUT < length text
RefusesCatalog text (Malformed line cause) = IsShort text × IsMalformedSchedule text line (line_cause_of cause)
RefusesCatalog text HasEvents = IsShort text × (schedule : Schedule) × IsSchedule text schedule × (schedule.events ≢ [])
RefusesCatalog text NoMemory = ⊤
RefusesCatalog text other = ⊥

-- The text that declares a catalog, by the answer: it is a schedule without events.
abbrev pub ReadsCatalog : List ℕ → Result Declaring WorldFault → Type 0
ReadsCatalog text (Ok behind) = IsShort text × (behind.text ≡ text) × IsSchedule text (schedule_over behind.catalog [])
ReadsCatalog text (Err fault) = RefusesCatalog text fault

-- The line is this event behind the text of a catalog: with it the text is a schedule of the same catalog and of this event alone.
abbrev pub SaysEvent : List ℕ → Declared → List ℕ → Event → Type 0
SaysEvent text catalog line event = IsShort (with_line text line) × IsSchedule (with_line text line) (schedule_over catalog (event ∷ []))

-- Why a line isn't an event behind the text of a catalog.
abbrev pub RefusesLine : List ℕ → Declared → List ℕ → WorldFault → Type 0
RefusesLine text catalog line TooLong = MAX_INPUT < length (with_line text line)
RefusesLine text catalog line (Malformed number cause) = IsShort (with_line text line) × IsMalformedSchedule (with_line text line) number (line_cause_of cause)
RefusesLine text catalog line NotOneEvent =
    IsShort (with_line text line) × (schedule : Schedule) × IsSchedule (with_line text line) schedule × ((event : Event) → schedule ≢ schedule_over catalog (event ∷ []))
RefusesLine text catalog line NoMemory = ⊤
RefusesLine text catalog line other = ⊥

-- The event that a line is behind the text of a catalog, by the answer.
abbrev pub ReadsEvent : List ℕ → Declared → List ℕ → Result code.Event WorldFault → Type 0
ReadsEvent text catalog line (Ok event) = SaysEvent text catalog line (event_of event) × HasPlan catalog event
ReadsEvent text catalog line (Err fault) = RefusesLine text catalog line fault
