-- A world that the layers keep is orderly, and so agrees.
use Rattle.pv_law_agreement.proofs.AgreementLemmas.{agrees}
use Rattle.pv_law_agreement.proofs.ValueSteps.{orderly-from}
use Rattle.pv_law_agreement.proofs.worlds.kept_worlds_agree.Goals as goal

pub returns : goal.returns
returns c = λ setup w grounds sequence values. agrees setup w (orderly-from setup w grounds sequence values)
