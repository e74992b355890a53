-- The lemma, as the law of an empty function.
use Rattle.pv_law_polyvalues.proofs.ExistenceLemmas as lemmas
use Rattle.pv_law_polyvalues.proofs.existence.one_choice.Goals as goal

pub returns : goal.returns
returns g c = λ txn new old count other are them. lemmas.one-choice-names txn new old count other are them
