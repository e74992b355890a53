-- The lemma that they are canonical.
use Rattle.pv_law_canonical.proofs.CanonicalLemmas as lemmas
use Rattle.pv_law_canonical.proofs.are_canonical.Goals as goal

pub returns : goal.returns
returns g c = λ same txns f is up. lemmas.canonical-is same is txns f up
