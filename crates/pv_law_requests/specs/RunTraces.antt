-- The trace of a run.
use Rattle.std.specs.Prelude.{List, [], ◌∷◌}
use Rattle.pv_audit.specs.Traces.{Trace, TracePart}
use Rattle.pv_model.specs.Events.{Event}
use Rattle.pv_protocol.specs.Run.{lines_of_transitions, transitions_of, world_after}
use Rattle.pv_protocol.specs.State.{Setup}
use Rattle.pv_protocol.specs.World.{World, opening}

-- the parts of the trace of events, from this world on: each event with all that it prints
abbrev pub parts_from : Setup → World → List Event → List TracePart
parts_from setup world [] = []
parts_from setup world (event ∷ events) =
    let now = transitions_of setup world event in
    record { event = event; lines = lines_of_transitions now } ∷ parts_from setup (world_after world now) events

-- the trace of a run
abbrev pub run_trace : Setup → List Event → Trace
run_trace setup events = record { catalog = setup.catalog; parts = parts_from setup (opening setup) events }
