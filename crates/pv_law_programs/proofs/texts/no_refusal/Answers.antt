-- The lemma on texts.
use Rattle.pv_law_programs.proofs.NoRefusalLemmas as lemmas
use Rattle.pv_law_programs.proofs.texts.no_refusal.Goals as goal

pub returns : goal.returns
returns c = λ catalog text p r a f. lemmas.no_refusal catalog text p r a f
