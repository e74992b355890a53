-- Each transition of a run that prints a number gives it, and acts lead on from there.
use Rattle.pv_law_answers.proofs.TxnNumbers.{any-giving, run-giving, txns-new}
use Rattle.pv_law_answers.proofs.numbers.no_txn_is_begun_twice.Goals as goal
use Rattle.pv_law_events.proofs.RunActs.{any-run-known, run-known}
use Rattle.pv_law_world.proofs.TransitionLemmas.{run-transitions}
use Rattle.pv_protocol.specs.Run.{run}
use Rattle.pv_protocol.specs.World.{opening}

pub returns-clause-run : goal.returns-clause-run
returns-clause-run c = λ setup events well.
    let all = run setup (opening setup) events in
    txns-new setup (opening setup) all (run-known setup events well) (run-giving setup (opening setup) all (run-transitions setup (opening setup) events))

pub returns-clause-faults : goal.returns-clause-faults
returns-clause-faults c = λ setup transitions faults.
    txns-new setup (opening setup) transitions (any-run-known setup transitions faults) (any-giving setup (opening setup) transitions faults)
