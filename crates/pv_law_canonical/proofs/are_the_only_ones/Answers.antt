-- The lemma that there are no others.
use Rattle.pv_law_canonical.proofs.CanonicalLemmas as lemmas
use Rattle.pv_law_canonical.proofs.are_the_only_ones.Goals as goal

pub returns : goal.returns
returns g c = λ same txns f is up depends. lemmas.only-one same is txns f up depends
