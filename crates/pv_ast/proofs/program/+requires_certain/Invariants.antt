-- The program requires that the item be certain where the statements left do.
use Rattle.std.proofs.Common.{◌≡◌, drop}
use Rattle.pv_model.specs.Check.{requires_certain}
use Rattle.pv_ast.specs.ProgramView.{program_of}
use Rattle.pv_ast.proofs.program.+requires_certain.Given as goal

abbrev pub invariant-Program::requires_certain-loop-stmt : goal.invariant-Program::requires_certain-loop-stmt
invariant-Program::requires_certain-loop-stmt l =
    requires_certain l.fn.self l.fn.item.0 ≡ requires_certain (program_of (drop l.stmt-index l.stmt-items)) l.fn.item.0
