-- The program leaves the marks that the statements left leave on the marks so far.
use Rattle.std.proofs.Common.{◌≡◌, drop}
use Rattle.pv_ast.specs.ProgramView.{program_of}
use Rattle.pv_check.specs.Marks.{marks_after}
use Rattle.pv_check.proofs.marks.+mark.Given as goal

abbrev pub invariant-mark_program-loop-stmt : goal.invariant-mark_program-loop-stmt
invariant-mark_program-loop-stmt l = marks_after l.fn.program l.initial.marks ≡ marks_after (program_of (drop l.stmt-index l.stmt-items)) l.marks
