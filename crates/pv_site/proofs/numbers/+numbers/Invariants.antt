-- The program has the answer of the statements left.
use Rattle.std.proofs.Common.{◌≡◌, drop}
use Rattle.pv_ast.specs.ProgramView.{program_of}
use Rattle.pv_protocol.specs.WellFormed.{has_small_numbers}
use Rattle.pv_site.proofs.numbers.+numbers.Given as goal

abbrev pub invariant-has_small_numbers-loop-stmt : goal.invariant-has_small_numbers-loop-stmt
invariant-has_small_numbers-loop-stmt l = has_small_numbers l.fn.program ≡ has_small_numbers (program_of (drop l.stmt-index l.stmt-items))
