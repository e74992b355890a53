-- The program has the answer of the statements left.
use Rattle.std.proofs.Common.{◌≡◌, drop}
use Rattle.pv_model.specs.Check.{has_return}
use Rattle.pv_ast.specs.ProgramView.{program_of}
use Rattle.pv_check.proofs.scan.+has_return.Given as goal

abbrev pub invariant-has_return-loop-stmt : goal.invariant-has_return-loop-stmt
invariant-has_return-loop-stmt l = has_return l.fn.program ≡ has_return (program_of (drop l.stmt-index l.stmt-items))
