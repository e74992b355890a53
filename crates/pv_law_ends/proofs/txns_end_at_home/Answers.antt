use Rattle.pv_law_ends.proofs.RunEnds.{any-tell, end-at-home, run-tell}
use Rattle.pv_law_ends.proofs.txns_end_at_home.Goals as goal
use Rattle.pv_law_events.proofs.RunActs.{any-run-known, run-known}
use Rattle.pv_law_world.proofs.TransitionLemmas.{run-transitions}
use Rattle.pv_protocol.specs.Run.{run}
use Rattle.pv_protocol.specs.World.{opening}

pub returns-clause-run : goal.returns-clause-run
returns-clause-run c = λ setup events well.
    let all = run setup (opening setup) events in
    end-at-home setup (opening setup) all (run-known setup events well) (run-tell setup (opening setup) all (run-transitions setup (opening setup) events))

pub returns-clause-faults : goal.returns-clause-faults
returns-clause-faults c = λ setup transitions faults.
    end-at-home setup (opening setup) transitions (any-run-known setup transitions faults) (any-tell setup (opening setup) transitions faults)
