-- The lemma on their table.
use Rattle.pv_law_canonical.proofs.CanonicalLemmas as lemmas
use Rattle.pv_law_canonical.proofs.have_its_table.Goals as goal

pub returns : goal.returns
returns g c = λ same txns f is up. lemmas.table-is same is txns f up
