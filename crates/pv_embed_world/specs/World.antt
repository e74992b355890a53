-- A world that a host steps: how it is opened, and what the lines of its steps make of it.
use Rattle.std.specs.Prelude.{◌≡◌, ℕ, true, Option, None, Some, is_some, IfSome, Result, Ok, Err, List, [], ◌∷◌, ◌++◌, ⊤}
use Rattle.pv_base.specs.Catalog.{Declared}
use Rattle.pv_base.specs.declared.limits.TheConstants.{MAX_SENT}
use Rattle.pv_model.specs.Events.{Event}
use Rattle.pv_model.specs.Schedule.{IsSchedule}
use Rattle.pv_protocol.specs.Limit.{over_limit}
use Rattle.pv_script.specs.Behind.{schedule_over}
use Rattle.pv_world.specs.Stands.{StandsFor}
use Rattle.pv_world.specs.declared.world.World.{World}
use Rattle.pv_run.specs.InputAnswers.{output_of}
use Rattle.pv_run.specs.KeptDisks.{last_world}
use Rattle.pv_run.specs.declared.form.Form.TheVariants.{Text}
use Rattle.pv_embed_world.specs.Reading.{IsShort, RefusesCatalog, RefusesLine, SaysEvent}
use Rattle.pv_embed_world.specs.declared.fault.WorldFault.{WorldFault}
use Rattle.pv_embed_world.specs.declared.fault.WorldFault.TheVariants.{SentLimit, BrokenOff, Closed}

-- A world with a host: the text that declares its catalog, the world in memory while it takes steps, and what is printed and not yet taken.
pub record Hosted : Type 0 where
  pub text : List ℕ
  pub catalog : Declared
  pub world : Option World
  pub kept : List ℕ

-- These events are those of its steps. Of what their run prints as text the host has taken this, and the rest is kept.
pub record HasRun (hosted : Hosted) (events : List Event) (taken : List ℕ) : Type 0 where
  pub world : IfSome hosted.world (λ world. StandsFor world (last_world (schedule_over hosted.catalog events)))
  pub text : taken ++ hosted.kept ≡ output_of Text (schedule_over hosted.catalog events)

-- The text declares its catalog and has no event; it takes steps, and made none.
pub record HasOpened (text : List ℕ) (hosted : Hosted) : Type 0 where
  pub same : hosted.text ≡ text
  pub short : IsShort text
  pub says : IsSchedule text (schedule_over hosted.catalog [])
  pub up : is_some hosted.world ≡ true
  pub run : HasRun hosted [] []

-- An opening, by its answer.
abbrev pub Opens : List ℕ → Result Hosted WorldFault → Type 0
Opens text (Ok hosted) = HasOpened text hosted
Opens text (Err fault) = RefusesCatalog text fault

-- The total of the bytes of all messages of these events with the message that passes the limit, if one does.
abbrev pub over_after : Hosted → List Event → Option ℕ
over_after hosted events = over_limit MAX_SENT (last_world (schedule_over hosted.catalog events))

-- It takes no more steps, and is else as it was.
abbrev pub closed : Hosted → Hosted
closed hosted = record hosted { world = None }

module _ (old new : Hosted) (events : List Event) (taken line : List ℕ) where
  -- The line is this event, which has happened after those of the steps before it.
  pub record HasStepped (event : Event) : Type 0 where
    pub says : SaysEvent old.text old.catalog line event
    pub within : over_after old (events ++ event ∷ []) ≡ None
    pub run : HasRun new (events ++ event ∷ []) taken
    pub up : is_some new.world ≡ true
    pub same : new ≡ record old { world = new.world; kept = new.kept }

  -- The line is this event, in which the messages pass the limit.
  pub record HasPassed (total : ℕ) (event : Event) : Type 0 where
    pub says : SaysEvent old.text old.catalog line event
    pub over : over_after old (events ++ event ∷ []) ≡ Some total

  -- The answer to a line where the world takes steps.
  abbrev pub StepsOn : {X : Type 0} → Result X WorldFault → Type 0
  StepsOn (Ok _) = (event : Event) × HasStepped event
  StepsOn (Err (SentLimit total)) = ((event : Event) × HasPassed total event) × (new ≡ closed old)
  StepsOn (Err BrokenOff) = ((event : Event) × SaysEvent old.text old.catalog line event) × (new ≡ closed old)
  StepsOn (Err fault) = RefusesLine old.text old.catalog line fault × (new ≡ old)

  -- The answer to a line.
  abbrev pub Steps : {X : Type 0} → Option World → Result X WorldFault → Type 0
  Steps None result = (result ≡ Err Closed) × (new ≡ old)
  Steps (Some world) result = StepsOn result

-- What a line leaves where the world takes steps, by the answer, and why it is refused.
abbrev pub LeavesOn : {X : Type 0} → Hosted → Hosted → List ℕ → Result X WorldFault → Type 0
LeavesOn old new line (Ok _) = ⊤
LeavesOn old new line (Err (SentLimit total)) = new ≡ closed old
LeavesOn old new line (Err BrokenOff) = new ≡ closed old
LeavesOn old new line (Err fault) = RefusesLine old.text old.catalog line fault × (new ≡ old)

abbrev pub Leaves : {X : Type 0} → Hosted → Hosted → List ℕ → Option World → Result X WorldFault → Type 0
Leaves old new line None result = (result ≡ Err Closed) × (new ≡ old)
Leaves old new line (Some world) result = LeavesOn old new line result

-- A step: what it leaves, whatever came before it; and what it has done, for each list of events that may have been those of the steps before it, and whatever of
-- their text was taken.
abbrev pub StepsByLine : {X : Type 0} → Hosted → Hosted → List ℕ → Result X WorldFault → Type 0
StepsByLine old new line result =
    Leaves old new line old.world result × ((events : List Event) (taken : List ℕ) → HasRun old events taken → Steps old new events taken line old.world result)
