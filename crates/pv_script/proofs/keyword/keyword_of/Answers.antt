-- The table has each word that a line begins with, and each is spelled so.
use Rattle.std.proofs.Common.{refl}
use Rattle.pv_model.specs.LineForms.{scheduled, line_forms}
use Rattle.pv_script.specs.Keywords.{spelled}
use Rattle.pv_script.proofs.KeywordLemmas.{keyword-answer}
use Rattle.pv_script.proofs.keyword.keyword_of.Goals as goal

pub returns : goal.returns
unfolding line_forms
returns c = keyword-answer scheduled spelled c.args.word.now _ c.keyword_in.result refl refl c.keyword_in.ensures
