-- The lemma, as the law of an empty function.
use Rattle.pv_cases.proofs.CaseFaultLemmas as lemmas
use Rattle.pv_cases.proofs.laws.one_canonical_fault.Goals as goal

pub returns : goal.returns
returns g c = λ limit cases fault other is are. lemmas.one-list-fault limit cases fault other is are
