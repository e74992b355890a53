-- The requests of transitions, and that the order is of them.
use Rattle.std.specs.Prelude.{◌≡◌, List, [], ◌∷◌, ◌++◌}
use Rattle.pv_audit.specs.Reports.{begun_by}
use Rattle.pv_law_audits.specs.RightReports.{IsOfRequests}
use Rattle.pv_model.specs.Serial.{Ordered}
use Rattle.pv_protocol.specs.Run.{world_after}
use Rattle.pv_protocol.specs.World.{World}
use Rattle.pv_protocol.specs.WorldStep.{Transition}

-- the transactions that requests began in these transitions, each with its program: their lines say so
abbrev pub begun_in : List Transition → List Ordered
begun_in [] = []
begun_in (transition ∷ transitions) = begun_by transition.event transition.lines ++ begun_in transitions

-- In each world on the way each transaction of the order stands there once, and has the program of the first request before that began it.
abbrev pub OrdersAreOfRequests : World → List Transition → Type 0
OrdersAreOfRequests first transitions =
    (earlier later : List Transition) → transitions ≡ earlier ++ later → IsOfRequests (begun_in earlier) (world_after first earlier).order
