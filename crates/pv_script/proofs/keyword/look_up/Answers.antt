-- What is found is beside the word.
use Rattle.pv_script.proofs.KeywordLemmas.{spelled-answer, unlisted-answer}
use Rattle.pv_script.proofs.keyword.look_up.Goals as goal

pub returns-clause-spelled : goal.returns-clause-spelled
returns-clause-spelled g c = λ spelled each. spelled-answer spelled c.args.word.now c.args.table.now c.keyword_in.result each c.keyword_in.ensures

pub returns-clause-unlisted : goal.returns-clause-unlisted
returns-clause-unlisted g c = unlisted-answer c.args.word.now c.args.table.now c.keyword_in.result c.keyword_in.ensures
