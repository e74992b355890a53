-- The lemma on the one canonical list.
use Rattle.pv_law_polyvalues.proofs.PolyvalueLemmas as lemmas
use Rattle.pv_law_polyvalues.proofs.polyvalue.one_canonical.Goals as goal

pub returns : goal.returns
returns g c = lemmas.one-canonical
