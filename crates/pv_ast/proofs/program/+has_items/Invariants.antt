-- The rows have the program's items where they have those of the statements left.
use Rattle.std.proofs.Common.{◌≡◌, drop}
use Rattle.pv_model.specs.Items.{has_all_items}
use Rattle.pv_ast.specs.ProgramView.{program_of}
use Rattle.pv_ast.proofs.program.+has_items.Given as goal

abbrev pub invariant-Program::has_items-loop-stmt : goal.invariant-Program::has_items-loop-stmt
invariant-Program::has_items-loop-stmt l =
    has_all_items l.fn.rows l.fn.self ≡ has_all_items l.fn.rows (program_of (drop l.stmt-index l.stmt-items))
