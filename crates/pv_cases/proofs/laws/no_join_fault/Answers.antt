-- The lemma, as the law of an empty function.
use Rattle.pv_cases.proofs.SomeFaultLemmas as lemmas
use Rattle.pv_cases.proofs.laws.no_join_fault.Goals as goal

pub returns : goal.returns
returns g c = λ limit cases fault sound few is. lemmas.no-join-fault limit cases fault sound few is
