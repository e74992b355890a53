-- A text that declares a catalog, and what stands behind it.
use Rattle.std.specs.Prelude.{◌≢◌, ℕ, List, [], ◌∷◌, ◌++◌}
use Rattle.pv_base.specs.Catalog.{Declared}
use Rattle.pv_model.specs.Events.{Event, Schedule}
use Rattle.pv_model.specs.ReplyText.{line_feed}
use Rattle.pv_model.specs.Schedule.{IsSchedule}

-- a text, and the catalog that it declares
pub record Declaring : Type 0 where
  pub text : List ℕ
  pub catalog : Declared

-- the schedule of these events over this catalog
abbrev pub schedule_over : Declared → List Event → Schedule
schedule_over catalog events = record { catalog = catalog; events = events }

-- a text with a line behind it
abbrev pub with_line : List ℕ → List ℕ → List ℕ
with_line text line = text ++ (line_feed ++ line)

-- The line is this event behind the text: with it the text is a schedule of the same catalog and of this event alone.
abbrev pub IsEventBehind : Declaring → List ℕ → Event → Type 0
IsEventBehind behind line event = IsSchedule (with_line behind.text line) (schedule_over behind.catalog (event ∷ []))

-- The line is no single event behind the text: with it the text is a schedule, but one with no event or several, or of another catalog.
abbrev pub IsNoEventBehind : Declaring → List ℕ → Type 0
IsNoEventBehind behind line =
    (schedule : Schedule) × IsSchedule (with_line behind.text line) schedule × ((event : Event) → schedule ≢ schedule_over behind.catalog (event ∷ []))
