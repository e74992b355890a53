-- The statements so far are copied.
use Rattle.std.proofs.Common.{◌≡◌, take}
use Rattle.pv_ast.proofs.program.+copy.Given as goal

abbrev pub invariant-Program::copy-loop-stmt : goal.invariant-Program::copy-loop-stmt
invariant-Program::copy-loop-stmt l = l.stmts.items ≡ take l.stmt-index l.stmt-items
