-- The lemma, as the law of an empty function.
use Rattle.pv_law_journal.proofs.OneAnswer.{one_answer}
use Rattle.pv_law_journal.proofs.journals.one_journal.Goals as goal

pub returns : goal.returns
returns c = λ bytes. one_answer bytes
