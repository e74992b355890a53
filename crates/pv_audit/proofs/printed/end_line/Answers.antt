-- Nothing stands behind the first word.
use Rattle.std.proofs.Common.{refl, sym, ◌∙◌, eqb-true}
use Rattle.pv_audit.proofs.PartsLemmas.{none-texts}
use Rattle.pv_audit.proofs.printed.end_line.Goals as goal

pub returns : goal.returns
returns c = λ catalog. (tt, record { are = none-texts c.args.words.now (eqb-true _ 0 (sym c.is_empty.ensures ∙ c.if-not-is_empty.false)); items = tt; within = tt }, refl)
