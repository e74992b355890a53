-- The lemma, as the law of an empty function.
use Rattle.pv_law_format.proofs.ReplayLemmas as lemmas
use Rattle.pv_law_format.proofs.records.one_replay_answer.Goals as goal

pub returns : goal.returns
returns c = λ contents. lemmas.one-replay-answer contents
