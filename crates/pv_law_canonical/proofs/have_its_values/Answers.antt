-- The lemma on their values.
use Rattle.pv_law_canonical.proofs.CanonicalLemmas as lemmas
use Rattle.pv_law_canonical.proofs.have_its_values.Goals as goal

pub returns : goal.returns
returns g c = λ same txns f is up depends. lemmas.value-is same is txns f up depends
