-- So many messages were delivered so far.
use Rattle.pv_law_decisions.specs.Scene.{Scene}
use Rattle.pv_quorum_run.proofs.HappenLemmas.{Pumping}
use Rattle.pv_quorum_run.specs.Stands.{StandsFor}
use Rattle.pv_quorum_run.proofs.table.Table.pump_some.Given as goal

abbrev pub invariant-loop : goal.invariant-loop
invariant-loop l = (scene : Scene) → StandsFor l.fn.self scene → Pumping l.fn.self l.self l.fn.text.items l.text.items scene l.counter
