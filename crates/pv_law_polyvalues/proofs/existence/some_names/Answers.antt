-- The lemma, as the law of an empty function.
use Rattle.pv_law_polyvalues.proofs.NameLemmas as lemmas
use Rattle.pv_law_polyvalues.proofs.existence.some_names.Goals as goal

pub returns : goal.returns
returns g c = λ cases. lemmas.some-names cases
