-- The lemma on what is found of reports that are right.
use Rattle.pv_law_audits.proofs.PassLemmas.{right-passes}
use Rattle.pv_law_audits.proofs.right_traces_pass.Goals as goal

pub returns : goal.returns
returns c = right-passes
