-- The program names no item behind the catalog's.
use Rattle.std.proofs.Common.{arith}
use Rattle.pv_check.proofs.MarkLemmas.{AreMarks-take}
use Rattle.pv_check.proofs.marks.marks_within.Goals as goal

pub returns-clause-marks : goal.returns-clause-marks
returns-clause-marks c = λ program are known.
    AreMarks-take program c.args.marks.now c.len.result (λ n named. omega (arith, known n named, c.len.ensures.count)) are
