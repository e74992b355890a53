-- The lemma on functions with one table.
use Rattle.pv_base.specs.Assignment.{assignments}
use Rattle.pv_base.proofs.MapLemmas.{same-mapped}
use Rattle.pv_law_canonical.proofs.CanonicalLemmas as lemmas
use Rattle.pv_law_canonical.proofs.follow_the_table.Goals as goal

pub returns : goal.returns
returns g c = λ same txns f g up alike. lemmas.alike-cases same txns f g up (same-mapped f g (assignments txns) alike)
