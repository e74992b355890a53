-- The lemma on their values by the listed transactions.
use Rattle.pv_law_canonical.proofs.CanonicalLemmas as lemmas
use Rattle.pv_law_canonical.proofs.have_its_listed_values.Goals as goal

pub returns : goal.returns
returns g c = λ same txns f is up. lemmas.value-listed same is txns f up
