-- Transitions of a run, each with what came before it and after it.
use Rattle.std.specs.Prelude.{◌≡◌, ℕ, Some, List, ◌∷◌, ◌++◌, slice_get}
use Rattle.pv_format.specs.Message.{Message}
use Rattle.pv_model.specs.Events.{deliver}
use Rattle.pv_protocol.specs.Run.{world_after}
use Rattle.pv_protocol.specs.State.{Running}
use Rattle.pv_protocol.specs.World.{World, site_at}
use Rattle.pv_protocol.specs.WorldStep.{Transition}

-- a transition among others, with those before it and those after it
pub record Place (transitions : List Transition) : Type 0 where
  pub earlier : List Transition
  pub transition : Transition
  pub later : List Transition
  pub split : transitions ≡ earlier ++ transition ∷ later

-- the world in which the transition comes, where the run begins in this one
abbrev pub world_before : {transitions : List Transition} → World → Place transitions → World
world_before first place = world_after first place.earlier

-- In this world the site is up, and in the transition it takes this message from this sender.
pub record Takes (world : World) (transition : Transition) (n from : ℕ) (message : Message) : Type 0 where
  pub number : ℕ
  pub event : transition.event ≡ deliver number
  pub sent : slice_get world.sent number ≡ Some (record { from = from; to = n; message = message })
  pub running : Running
  pub up : (site_at world n).running ≡ Some running
