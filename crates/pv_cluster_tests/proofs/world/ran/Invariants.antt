-- The world stands for one, and each event is one of its sites, with its plan.
use Rattle.std.proofs.Common.{map}
use Rattle.std.specs.Prelude.{All}
use Rattle.pv_protocol.specs.WellFormed.{IsWellFormed}
use Rattle.pv_script.specs.ScheduleView.{event_of, HasPlan}
use Rattle.pv_world.specs.Stands.{StandsForSome}
use Rattle.pv_cluster_tests.proofs.world.ran.Given as goal

abbrev pub invariant-loop-event : goal.invariant-loop-event
invariant-loop-event l = record {
  stands : StandsForSome l.world;
  formed : All (IsWellFormed l.world.catalog) (map event_of l.fn.events);
  plans : All (HasPlan l.world.catalog) l.fn.events;
}
