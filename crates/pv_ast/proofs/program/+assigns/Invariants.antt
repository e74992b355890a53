-- The program assigns the item where the statements left do.
use Rattle.std.proofs.Common.{◌≡◌, drop}
use Rattle.pv_model.specs.ProgramLaws.{assigns}
use Rattle.pv_ast.specs.ProgramView.{program_of}
use Rattle.pv_ast.proofs.program.+assigns.Given as goal

abbrev pub invariant-Program::assigns-loop-stmt : goal.invariant-Program::assigns-loop-stmt
invariant-Program::assigns-loop-stmt l =
    assigns l.fn.self l.fn.item.0 ≡ assigns (program_of (drop l.stmt-index l.stmt-items)) l.fn.item.0
