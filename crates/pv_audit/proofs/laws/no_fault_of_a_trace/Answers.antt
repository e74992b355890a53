use Rattle.pv_audit.proofs.FaultLemmas.{no-fault}
use Rattle.pv_audit.proofs.laws.no_fault_of_a_trace.Goals as goal

pub returns : goal.returns
returns c = no-fault
