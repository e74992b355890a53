-- What clients ask for, and what stands of it in a site's history.
use Rattle.std.specs.Prelude.{ℕ, ◌==◌, List, [], ◌∷◌, if◌then◌else◌}
use mathlib.Core.List.{IsPrefix, Sublist}
use Rattle.pv_law_histories.specs.History.{Intake, request, Stamped}
use Rattle.pv_model.specs.LiveScript.{Request}

-- what the site took in of this client, in order, before these
abbrev pub with_asked : ℕ → Intake → List Request → List Request
with_asked client (request asker asked) later = if asker == client then asked ∷ later else later
with_asked client other later = later

-- what the site took in of this client, in order
abbrev pub asked_by : ℕ → List Stamped → List Request
asked_by client [] = []
asked_by client (entry ∷ entries) = with_asked client entry.intake (asked_by client entries)

-- A client posts its script in order, up to some request. What its site took of that is a beginning, and what stands in the history is what it took, less what
-- was lost for want of memory.
pub record AsksInOrder (client : ℕ) (script posted taken : List Request) (history : List Stamped) : Type 0 where
  pub posts : IsPrefix posted script
  pub takes : IsPrefix taken posted
  pub stands : Sublist (asked_by client history) taken
