-- The lemma, as the law of an empty function.
use Rattle.pv_law_agreement.proofs.RunLemmas.{all-agree}
use Rattle.pv_law_agreement.proofs.runs.reached_worlds_agree.Goals as goal

pub returns : goal.returns
returns c = λ setup w acts. all-agree setup w acts
