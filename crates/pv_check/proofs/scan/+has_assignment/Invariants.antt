-- The program has the answer of the statements left.
use Rattle.std.proofs.Common.{◌≡◌, drop}
use Rattle.pv_model.specs.Check.{has_assignment}
use Rattle.pv_ast.specs.ProgramView.{program_of}
use Rattle.pv_check.proofs.scan.+has_assignment.Given as goal

abbrev pub invariant-has_assignment-loop-stmt : goal.invariant-has_assignment-loop-stmt
invariant-has_assignment-loop-stmt l = has_assignment l.fn.program ≡ has_assignment (program_of (drop l.stmt-index l.stmt-items))
