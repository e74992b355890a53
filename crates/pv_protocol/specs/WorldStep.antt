-- One event of a run: what it prints, and the world after it.
use Rattle.std.specs.Prelude.{List}
use Rattle.pv_model.specs.Events.{Event}
use Rattle.pv_protocol.specs.Arms.{calls_of, reached, attempted}
use Rattle.pv_protocol.specs.Attempt.{Begun, settled, attempts, begun}
use Rattle.pv_protocol.specs.Lines.{Line}
use Rattle.pv_protocol.specs.State.{Setup}
use Rattle.pv_protocol.specs.World.{World, site_at}

-- an event, what it prints, and the world after it
pub record Transition : Type 0 where
  pub event : Event
  pub lines : List Line
  pub world : World

-- what an event prints, and the world after it
abbrev pub ended : Begun → List Line × World
ended (settled lines world) = (lines, world)
ended (attempts world n attempt) = attempted world n attempt (reached (calls_of attempt) (site_at world n).arm)

-- One event that isn't a pump.
unfoldable pub transition_of : Setup → World → Event → Transition
transition_of setup world event = let now = ended (begun setup world event) in record { event = event; lines = now.0; world = now.1 }
