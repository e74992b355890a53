-- The lemma on lists of cases.
use Rattle.pv_law_canonical.proofs.ComparedLemmas as lemmas
use Rattle.pv_law_canonical.proofs.same_cases_are_exact.Goals as goal

pub returns : goal.returns
returns g c = λ same is. lemmas.same-cases-exact is
