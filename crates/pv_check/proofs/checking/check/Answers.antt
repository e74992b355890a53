-- The parts are a plan, since the wants are the program's.
use Rattle.std.proofs.Common.{List, sym, subst}
use Rattle.pv_base.specs.Want.{Want}
use Rattle.pv_check.specs.Wants.{AreWants}
use Rattle.pv_check.proofs.checking.check.Goals as goal

pub returns-clause-plan : goal.returns-clause-plan
returns-clause-plan c =
    let program = c.args.program.now in
    c.in_ok-parts.ensures program
    (subst (λ (wants : List Want). AreWants program wants) (sym c.deref.ensures.value)
    (c.in_ok-wants.ensures program (c.marks_within-marks.ensures.marks program c.marks_of-table.ensures c.requires)))
