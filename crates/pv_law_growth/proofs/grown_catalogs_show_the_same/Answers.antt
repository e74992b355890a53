use Rattle.pv_law_growth.proofs.GrowthLemmas.{same-shown, same-value}
use Rattle.pv_law_growth.proofs.grown_catalogs_show_the_same.Goals as goal

pub returns-clause-shown : goal.returns-clause-shown
returns-clause-shown c catalog later records item grown below = same-shown catalog later grown records item below

pub returns-clause-values : goal.returns-clause-values
returns-clause-values c catalog later records item assignment grown below = same-value catalog later grown records item assignment below
