-- The lemma, as the law of an empty function.
use Rattle.std.proofs.Common.{refl}
use Rattle.pv_law_polyvalues.proofs.NameLemmas as lemmas
use Rattle.pv_law_polyvalues.proofs.existence.one_names.Goals as goal

pub returns : goal.returns
returns g c = λ cases txns others are them. lemmas.one-names cases cases txns others (λ t. refl) are them
