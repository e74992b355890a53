use Rattle.pv_cell.specs.Box.{IsBox}
use Rattle.pv_disk.specs.ListLaws.{list_model}
use Rattle.pv_cell_tests.proofs.play.first_wrong.Given as goal

abbrev pub invariant-loop-number : goal.invariant-loop-number
invariant-loop-number l = IsBox list_model l.stage.cell
