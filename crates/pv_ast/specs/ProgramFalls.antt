-- The parts of a program are smaller than it.
use Rattle.std.specs.Prelude.{◌≤◌, max, List, [], ◌∷◌, Some, None}
use Rattle.std.proofs.Common.{arith}
use Rattle.pv_ast.specs.declared.program.Stmt.{Stmt}
use Rattle.pv_ast.specs.declared.program.Stmt.TheVariants.{Assign, Require, Certain, Return, If}
use Rattle.pv_ast.specs.declared.program.Program.TheDeep.{deep-Stmt}
use Rattle.pv_ast.specs.ProgramView.{program_of, size_of_program}
use denote.Param.Weighed.{most}

pub most-le-size : (stmts : List Stmt) → max (most deep-Stmt stmts) 0 ≤ size_of_program (program_of stmts)
most-le-size [] = omega arith
most-le-size (Assign n e ∷ stmts) = omega (arith, most-le-size stmts)
most-le-size (Require e ∷ stmts) = omega (arith, most-le-size stmts)
most-le-size (Certain n ∷ stmts) = omega (arith, most-le-size stmts)
most-le-size (Return e ∷ stmts) = omega (arith, most-le-size stmts)
most-le-size (If e body None ∷ stmts) = omega (arith, most-le-size stmts)
most-le-size (If e body (Some other) ∷ stmts) = omega (arith, most-le-size stmts)
