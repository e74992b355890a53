-- What one more line gives.
use Rattle.std.specs.Prelude.{◌≡◌, List, [], ◌∷◌, ◌++◌}
use Rattle.pv_base.specs.Catalog.{Declared}
use Rattle.pv_model.specs.LineCauses.{Before}
use Rattle.pv_model.specs.Schedule.{Declares, IsEvent, with_event}
use Rattle.pv_model.specs.Text.{TextLine}
use Rattle.pv_script.specs.ScheduleView.{event_of, HasPlan}
use Rattle.pv_script.specs.declared.schedule.Event.{Event}

-- The line declares something, or is one more event, whose plan is over the catalog.
pub data TakesLine (before : Before) (line : TextLine) (after : Before) (catalog : Declared) (old new : List Event) : Type 0 where
  declared : Declares before line after → new ≡ old → TakesLine before line after catalog old new
  happened : (event : Event) → IsEvent before line (event_of event) → after ≡ with_event before → HasPlan catalog event → new ≡ old ++ event ∷ []
      → TakesLine before line after catalog old new
