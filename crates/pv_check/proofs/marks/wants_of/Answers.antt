-- The wants that the marks stand for are the program's.
use Rattle.std.proofs.Common.{List, sym, subst, arith}
use Rattle.pv_base.specs.Want.{Want}
use Rattle.pv_check.specs.Wants.{AreWants}
use Rattle.pv_check.proofs.WantLemmas.{AreWants-among}
use Rattle.pv_check.proofs.marks.wants_of.Goals as goal

pub returns : goal.returns
returns c = λ program are.
    subst (λ (wants : List Want). AreWants program wants) (sym c.loop-number.invariant)
    (AreWants-among program c.args.marks.now c.loop-number.number (omega (arith, c.loop-number-test.false)) are)
