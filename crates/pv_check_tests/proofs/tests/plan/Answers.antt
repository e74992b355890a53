-- The program of a text names items of the catalog alone.
use Rattle.pv_law_programs.proofs.DeclaredItems.{declared-items}
use Rattle.pv_check_tests.proofs.tests.plan.Goals as goal

pub check-requires : goal.check-requires
check-requires c d = declared-items _ _ _ d.in-Ok-parse.ensures.answer.given
