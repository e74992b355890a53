-- A run of a schedule, with all worlds on the way.
use Rattle.std.specs.Prelude.{Some, None, List, [], ◌∷◌, ◌++◌, map, flat_map}
use Rattle.pv_model.specs.Events.{Event, pump}
use Rattle.pv_protocol.specs.Lines.{Line}
use Rattle.pv_protocol.specs.Pump.{deliveries, enough}
use Rattle.pv_protocol.specs.State.{Setup}
use Rattle.pv_protocol.specs.World.{World, opening}
use Rattle.pv_protocol.specs.WorldStep.{Transition, transition_of}

-- An event's transitions: those of a pump are its deliveries, and any other event is one.
unfoldable pub transitions_of : Setup → World → Event → List Transition
transitions_of setup world (pump None) = deliveries (enough world) setup world
transitions_of setup world (pump (Some most)) = deliveries most setup world
transitions_of setup world event = transition_of setup world event ∷ []

-- the world after these transitions
abbrev pub world_after : World → List Transition → World
world_after world [] = world
world_after world (transition ∷ transitions) = world_after transition.world transitions

-- what these transitions print
abbrev pub lines_of_transitions : List Transition → List Line
lines_of_transitions transitions = flat_map (λ transition. transition.lines) transitions

-- the transitions of all events, one after another
abbrev pub run : Setup → World → List Event → List Transition
run setup world [] = []
run setup world (event ∷ events) =
    let now = transitions_of setup world event in
    now ++ run setup (world_after world now) events

-- all worlds of a run: the one where it begins, and the one after each transition
abbrev pub worlds_of : World → List Transition → List World
worlds_of first transitions = first ∷ map (λ transition. transition.world) transitions

-- what events print, from the opening world on
unfoldable pub printed : Setup → List Event → List Line
printed setup events = lines_of_transitions (run setup (opening setup) events)
