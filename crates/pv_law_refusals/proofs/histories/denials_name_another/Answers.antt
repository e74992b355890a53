use Rattle.pv_format.specs.Message.{denied}
use Rattle.pv_law_refusals.proofs.Chains.{run-links, any-run-links, link-at}
use Rattle.pv_law_refusals.proofs.histories.denials_name_another.Goals as goal
use Rattle.pv_protocol.specs.Run.{run}
use Rattle.pv_protocol.specs.World.{opening}

pub returns-clause-run : goal.returns-clause-run
returns-clause-run c setup events well place from to txn item holder sent =
    (link-at setup (opening setup) (run setup (opening setup) events) (run-links setup events well) place).known.settled.sound.right.sent from to (denied txn item holder) sent

pub returns-clause-faults : goal.returns-clause-faults
returns-clause-faults c setup transitions goes place from to txn item holder sent =
    (link-at setup (opening setup) transitions (any-run-links setup transitions goes) place).known.settled.sound.right.sent from to (denied txn item holder) sent
