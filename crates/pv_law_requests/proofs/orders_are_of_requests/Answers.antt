-- What begins the order of a run are requests, with armed faults and with faults anywhere.
use Rattle.pv_law_events.proofs.RunActs.{any-run-known, run-known}
use Rattle.pv_law_requests.proofs.RequestLemmas.{all-of-requests, any-goes, run-goes}
use Rattle.pv_law_requests.proofs.orders_are_of_requests.Goals as goal
use Rattle.pv_law_world.proofs.TransitionLemmas.{run-transitions}
use Rattle.pv_protocol.specs.Run.{run}
use Rattle.pv_protocol.specs.World.{opening}

pub returns-clause-run : goal.returns-clause-run
returns-clause-run c = λ setup events well.
    all-of-requests setup (run setup (opening setup) events) (run-known setup events well)
    (run-goes setup (opening setup) (run setup (opening setup) events) (run-transitions setup (opening setup) events))

pub returns-clause-faults : goal.returns-clause-faults
returns-clause-faults c = λ setup transitions faults.
    all-of-requests setup transitions (any-run-known setup transitions faults) (any-goes setup (opening setup) transitions faults)
