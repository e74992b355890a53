-- The program has the answer of the statements left.
use Rattle.std.proofs.Common.{◌≡◌, drop}
use Rattle.pv_ast.specs.ProgramView.{program_of}
use Rattle.pv_check.proofs.scan.+names_below.Given as goal
use Rattle.pv_check.specs.Fits.{names_below}

abbrev pub invariant-names_below-loop-stmt : goal.invariant-names_below-loop-stmt
invariant-names_below-loop-stmt l = names_below l.fn.limit l.fn.program ≡ names_below l.fn.limit (program_of (drop l.stmt-index l.stmt-items))
