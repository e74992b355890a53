-- Worlds that runs reach, and what holds of each.
use Rattle.std.specs.Prelude.{◌≡◌, List, [], All}
use Rattle.pv_law_events.specs.Replays.{AreReplayable}
use Rattle.pv_law_world.specs.Ranges.{IsWorldInRange}
use Rattle.pv_law_world.specs.Sites.{AreEpochsRecorded, AreMemoriesInOrder}
use Rattle.pv_model.specs.Events.{Event}
use Rattle.pv_protocol.specs.Outcomes.{HasOneOutcome}
use Rattle.pv_protocol.specs.Run.{run, world_after}
use Rattle.pv_protocol.specs.State.{Setup}
use Rattle.pv_protocol.specs.WellFormed.{IsWellFormed}
use Rattle.pv_protocol.specs.World.{World, opening}
use Rattle.pv_world.specs.Taken.{AreTakenInOrder}

-- A run of well-formed events ends in this world.
pub record IsReached (setup : Setup) (world : World) : Type 0 where
  pub events : List Event
  pub well : All (IsWellFormed setup.catalog) events
  pub ends : world ≡ world_after (opening setup) (run setup (opening setup) events)

-- What the laws say of such a world, and the calls here rest on.
pub record IsLawful (setup : Setup) (world : World) : Type 0 where
  pub range : IsWorldInRange setup world
  pub replayable : AreReplayable setup world
  pub epochs : AreEpochsRecorded world
  pub memories : AreMemoriesInOrder world
  pub taken : AreTakenInOrder setup world
  pub outcomes : HasOneOutcome world []
