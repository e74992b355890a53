-- The lemma on what they name.
use Rattle.pv_law_canonical.proofs.CanonicalLemmas as lemmas
use Rattle.pv_law_canonical.proofs.name_only_listed.Goals as goal

pub returns : goal.returns
returns g c = λ same txns f txn named. lemmas.names-listed same txns f txn named
