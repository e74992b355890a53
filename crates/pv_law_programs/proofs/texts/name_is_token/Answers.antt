-- The lemma on names.
use Rattle.pv_law_programs.proofs.NameLemmas as lemmas
use Rattle.pv_law_programs.proofs.texts.name_is_token.Goals as goal

pub returns : goal.returns
returns c = λ text tokens is. lemmas.name_is_token text tokens is
