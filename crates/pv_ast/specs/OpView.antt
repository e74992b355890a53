-- Operators as plain data.
use Rattle.pv_ast.specs.declared.expr.Op.{Op}
use Rattle.pv_ast.specs.declared.expr.Op.TheVariants.{Or, And, Equal, Unequal, Less, AtMost, Greater, AtLeast, Plus, Sub, Times, Over, Rest, Min, Max}
use Rattle.pv_model.specs.Syntax as model

abbrev pub op_of : Op → model.Op
op_of Or = model.or
op_of And = model.and
op_of Equal = model.equal
op_of Unequal = model.unequal
op_of Less = model.less
op_of AtMost = model.at_most
op_of Greater = model.greater
op_of AtLeast = model.at_least
op_of Plus = model.plus
op_of Sub = model.sub
op_of Times = model.times
op_of Over = model.over
op_of Rest = model.rest
op_of Min = model.lesser
op_of Max = model.larger
