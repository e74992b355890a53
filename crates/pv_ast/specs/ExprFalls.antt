-- The parts of an expression are smaller than it.
use Rattle.std.specs.Prelude.{◌≤◌, max}
use Rattle.std.proofs.Common.{arith}
use Rattle.pv_ast.specs.declared.expr.Expr.{Expr}
use Rattle.pv_ast.specs.declared.expr.Expr.TheVariants.{Number, Item, Minus, Not, Two}
use Rattle.pv_ast.specs.declared.expr.Operand.TheDeep.{deep-Expr}
use Rattle.pv_ast.specs.ExprView.{expr_of, size_of_expr}

pub deep-le-size : (e : Expr) → max (deep-Expr e) 0 ≤ size_of_expr (expr_of e)
deep-le-size (Number z) = omega arith
deep-le-size (Item n) = omega arith
deep-le-size (Minus e) = omega arith
deep-le-size (Not e) = omega arith
deep-le-size (Two op left right) = omega arith
