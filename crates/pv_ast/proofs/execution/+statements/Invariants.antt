-- The program does what the statements left do from here on.
use Rattle.std.proofs.Common.{◌≡◌, drop}
use Rattle.pv_model.specs.Meaning.{course_of}
use Rattle.pv_ast.specs.ProgramView.{program_of}
use Rattle.pv_ast.proofs.execution.+statements.Given as goal

abbrev pub invariant-run_statements-loop-stmt : goal.invariant-run_statements-loop-stmt
invariant-run_statements-loop-stmt l = course_of l.fn.program l.fn.rows ≡ course_of (program_of (drop l.stmt-index l.stmt-items)) l.rows
