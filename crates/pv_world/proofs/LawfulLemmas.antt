-- What holds of a world that a run reaches.
use Rattle.std.proofs.Common.{[], sym, subst}
use Rattle.std.specs.Prelude.{All}
use Rattle.pv_law_events.specs.Reached.{AreReached}
use Rattle.pv_law_events.specs.Replays.{AreReplayable}
use Rattle.pv_law_world.specs.Ranges.{IsWorldInRange}
use Rattle.pv_law_world.specs.Sites.{AreEpochsRecorded, AreMemoriesInOrder}
use Rattle.pv_protocol.specs.Outcomes.{OutcomesAgree}
use Rattle.pv_protocol.specs.Run.{run, world_after, worlds_of}
use Rattle.pv_protocol.specs.Sound.{IsSetupInRange}
use Rattle.pv_protocol.specs.State.{Setup}
use Rattle.pv_protocol.specs.World.{World, opening}
use Rattle.pv_world.proofs.RunLemmas.{EndWith, end-with, last-of}
use Rattle.pv_world.proofs.TakenLemmas.{always-taken}
use Rattle.pv_world.specs.Reached.{IsLawful, IsReached}

pub lawful : (setup : Setup) (world : World) → IsSetupInRange setup → (reached : IsReached setup world)
    → let worlds = worlds_of (opening setup) (run setup (opening setup) reached.events) in
    All (IsWorldInRange setup) worlds → All (AreReplayable setup) worlds → All AreEpochsRecorded worlds → All AreMemoriesInOrder worlds
    → OutcomesAgree worlds → AreReached setup worlds → IsLawful setup world
lawful setup world fine reached range replayable epochs memories agree acts =
    let first = opening setup in
    let transitions = run setup first reached.events in
    let end = world_after first transitions in
    let ending : EndWith (worlds_of first transitions) end = end-with first transitions in
    subst (IsLawful setup) (sym reached.ends) (record {
      range = last-of (IsWorldInRange setup) first transitions range;
      replayable = last-of (AreReplayable setup) first transitions replayable;
      epochs = last-of AreEpochsRecorded first transitions epochs;
      memories = last-of AreMemoriesInOrder first transitions memories;
      taken = always-taken setup fine.homes end (acts ending.before [] end ending.is).0;
      outcomes = agree ending.before [] end ending.is;
    })
