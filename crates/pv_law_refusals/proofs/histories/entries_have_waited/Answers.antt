use Rattle.pv_law_refusals.proofs.Chains.{run-links, any-run-links}
use Rattle.pv_law_refusals.proofs.WaitHistories.{ages-before}
use Rattle.pv_law_refusals.proofs.histories.entries_have_waited.Goals as goal
use Rattle.pv_protocol.specs.Run.{run}
use Rattle.pv_protocol.specs.World.{opening}

pub returns-clause-run : goal.returns-clause-run
returns-clause-run c setup events well place = ages-before setup (run setup (opening setup) events) (run-links setup events well) place

pub returns-clause-faults : goal.returns-clause-faults
returns-clause-faults c setup transitions goes place = ages-before setup transitions (any-run-links setup transitions goes) place
