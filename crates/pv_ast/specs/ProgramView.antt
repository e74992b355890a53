-- Programs as plain data.
use Rattle.std.specs.Prelude.{ℕ, ◌+◌, List, [], ◌∷◌, Some, None}
use Rattle.pv_ast.specs.declared.program.Stmt.{Stmt}
use Rattle.pv_ast.specs.declared.program.Stmt.TheVariants.{Assign, Require, Certain, Return, If}
use Rattle.pv_ast.specs.ExprView.{expr_of}
use Rattle.pv_model.specs.Syntax.{Program, end, assign, require, certain, return, when, when_else}

-- a statement with the program after it
abbrev pub followed_by : Stmt → Program → Program
followed_by (Assign n e) next = assign n.0 (expr_of e) next
followed_by (Require e) next = require (expr_of e) next
followed_by (Certain n) next = certain n.0 next
followed_by (Return e) next = return (expr_of e) next
followed_by (If e body None) next = when (expr_of e) body next
followed_by (If e body (Some other)) next = when_else (expr_of e) body other next

-- statements in order
abbrev pub program_of : List Stmt → Program
program_of [] = end
program_of (stmt ∷ stmts) = followed_by stmt (program_of stmts)

-- how many statements a program has in it, with one more for each program
abbrev pub size_of_program : Program → ℕ
size_of_program end = 1
size_of_program (assign n e next) = size_of_program next + 1
size_of_program (require e next) = size_of_program next + 1
size_of_program (certain n next) = size_of_program next + 1
size_of_program (return e next) = size_of_program next + 1
size_of_program (when e body next) = size_of_program body + size_of_program next + 1
size_of_program (when_else e body other next) = size_of_program body + size_of_program other + size_of_program next + 1
