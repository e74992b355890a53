-- The table has each word that a line of a live script begins with, and each is spelled so.
use Rattle.std.proofs.Common.{refl}
use Rattle.pv_model.specs.LineForms.{live, line_forms}
use Rattle.pv_script.specs.Keywords.{spelled_live}
use Rattle.pv_script.proofs.KeywordLemmas.{keyword-answer}
use Rattle.pv_script.proofs.keyword.live_keyword_of.Goals as goal

pub returns : goal.returns
unfolding line_forms
returns c = keyword-answer live spelled_live c.args.word.now _ c.keyword_in.result refl refl c.keyword_in.ensures
