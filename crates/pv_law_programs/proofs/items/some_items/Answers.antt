-- The lemma on a program's items.
use Rattle.pv_law_programs.proofs.ItemLemmas as lemmas
use Rattle.pv_law_programs.proofs.items.some_items.Goals as goal

pub returns : goal.returns
returns c = λ program. lemmas.some_items program
