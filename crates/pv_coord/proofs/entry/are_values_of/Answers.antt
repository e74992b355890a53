use Rattle.std.proofs.Common.{◌∙◌, arith}
use Rattle.pv_coord.proofs.TakenLemmas.{agree-pointwise}
use Rattle.pv_coord.proofs.entry.are_values_of.Goals as goal

pub returns-then-wants-values : goal.returns-then-wants-values
returns-then-wants-values c = c.agree.ensures ∙ agree-pointwise c.args.wants.now c.args.values.now (omega (arith, c.if-wants-values.true))
