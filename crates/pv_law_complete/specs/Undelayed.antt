-- A transfer over two sites that nothing disturbs: it is submitted, and all messages are delivered.
use Rattle.std.specs.Prelude.{List, [], ◌∷◌, map}
use Rattle.pv_law_events.specs.Eventful.{small}
use Rattle.pv_law_world.specs.Schedules.{changed, transfer, pump_all}
use Rattle.pv_model.specs.Syntax.{Op, Program}
use Rattle.pv_protocol.specs.Anywhere.{without_arms}
use Rattle.pv_protocol.specs.Run.{run, world_after}
use Rattle.pv_protocol.specs.World.{opening}
use Rattle.pv_protocol.specs.WorldStep.{Transition, transition_of}

-- its program
abbrev pub moving : Program
moving = changed Op.sub 0 10 (changed Op.plus 1 10 Program.end)

-- the transition in which it is submitted
abbrev pub submitted : Transition
submitted = without_arms (transition_of small (opening small) transfer)

-- the deliveries
abbrev pub deliveries : List Transition
deliveries = map without_arms (run small (world_after (opening small) (transition_of small (opening small) transfer ∷ [])) (pump_all ∷ []))
