-- The lemma on the soundness of canonical cases.
use Rattle.pv_law_polyvalues.proofs.PolyvalueLemmas as lemmas
use Rattle.pv_law_polyvalues.proofs.polyvalue.canonical_is_sound.Goals as goal

pub returns : goal.returns
returns g c = lemmas.canonical-sound
