use Rattle.pv_law_hosted.proofs.ClaimLemmas.{gone-mirrored, out-mirrored, shown-mirrored}
use Rattle.pv_law_hosted.proofs.mirrored_deployments_agree.Goals as goal

pub returns-clause-shown : goal.returns-clause-shown
returns-clause-shown c = shown-mirrored c.logs_tell_of_records.ensures.size

pub returns-clause-file : goal.returns-clause-file
returns-clause-file c = gone-mirrored

pub returns-clause-let_out : goal.returns-clause-let_out
returns-clause-let_out c = out-mirrored
