-- Expressions as plain data.
use Rattle.std.specs.Prelude.{ℕ, ◌+◌}
use Rattle.pv_ast.specs.declared.expr.Expr.{Expr}
use Rattle.pv_ast.specs.declared.expr.Expr.TheVariants.{Number, Item, Minus, Not, Two}
use Rattle.pv_ast.specs.OpView.{op_of}
use Rattle.pv_model.specs.Syntax as model
use Rattle.pv_model.specs.Syntax.{number, item, minus, negation, two}

-- an expression, whose parts are seen as plain data already
abbrev pub expr_of : Expr → model.Expr
expr_of (Number z) = number z
expr_of (Item n) = item n.0
expr_of (Minus e) = minus e
expr_of (Not e) = negation e
expr_of (Two op left right) = two (op_of op) left right

-- how many expressions an expression has in it, with itself
abbrev pub size_of_expr : model.Expr → ℕ
size_of_expr (number z) = 1
size_of_expr (item n) = 1
size_of_expr (minus e) = size_of_expr e + 1
size_of_expr (negation e) = size_of_expr e + 1
size_of_expr (two op left right) = size_of_expr left + size_of_expr right + 1
