use Rattle.pv_cell.specs.Box.{IsBox}
use Rattle.pv_disk.specs.ListLaws.{list_model}
use Rattle.pv_cell_tests.proofs.play.visits.Given as goal

abbrev pub invariant-loop : goal.invariant-loop
invariant-loop l = IsBox list_model l.stage.cell
