-- The lemma, as the law of an empty function.
use Rattle.pv_cases.proofs.SomeFaultLemmas as lemmas
use Rattle.pv_cases.proofs.laws.some_join_fault.Goals as goal

pub returns : goal.returns
returns g c = λ limit cases. lemmas.some-join-fault limit cases
