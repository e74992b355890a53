use Rattle.std.proofs.Common.{arith}
use Rattle.std.proofs.lemmas.List.Elements.{All-weaker}
use Rattle.pv_law_world.proofs.PumpLemmas.{more-fuel, none-left}
use Rattle.pv_law_world.proofs.TransitionLemmas.{run-marked}
use Rattle.pv_law_world.specs.Pumps.{AreMarked, HasPumpEnd}
use Rattle.pv_protocol.specs.Pump.{enough}
use Rattle.pv_protocol.specs.Run.{run, worlds_of}
use Rattle.pv_protocol.specs.World.{opening}
use Rattle.pv_law_world.proofs.pumps.pump_ends.Goals as goal

pub returns-clause-none_left : goal.returns-clause-none_left
returns-clause-none_left c setup world few marked = none-left setup few (enough world) world marked (omega arith)

pub returns-clause-no_others : goal.returns-clause-no_others
returns-clause-no_others c setup world more few marked = more-fuel setup few (enough world) more world marked (omega arith)

pub returns-clause-in_runs : goal.returns-clause-in_runs
returns-clause-in_runs c setup events few =
    All-weaker AreMarked (HasPumpEnd setup)
    (λ world marked. record {
      none_left = none-left setup few (enough world) world marked (omega arith);
      no_others = λ more. more-fuel setup few (enough world) more world marked (omega arith);
    })
    (worlds_of (opening setup) (run setup (opening setup) events)) (run-marked setup events)
