-- The lemmas, as the law of an empty function.
use Rattle.pv_law_journal.proofs.ContentsLemmas.{contents_of-is, contents_of-journal}
use Rattle.pv_law_journal.proofs.journals.contents_are_those_of_the_journal.Goals as goal

pub returns : goal.returns
returns c = λ contents bytes. (contents_of-journal contents bytes, contents_of-is contents bytes)
