-- The lemma, as the law of an empty function.
use Rattle.pv_law_agreement.proofs.AgreementLemmas.{agrees}
use Rattle.pv_law_agreement.proofs.worlds.orderly_worlds_agree.Goals as goal

pub returns : goal.returns
returns c = λ setup world is. agrees setup world is
