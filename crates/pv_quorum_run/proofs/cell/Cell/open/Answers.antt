-- Nothing is armed, so it starts.
use Rattle.pv_format.specs.Checkpoint.{first_standing}
use Rattle.pv_quorum_run.proofs.CellLemmas.{empty-down, empty_seat, first-up}
use Rattle.pv_quorum_run.proofs.cell.Cell.open.Goals as goal

pub started-requires-clause-seat : goal.started-requires-clause-seat
started-requires-clause-seat c = (empty_seat, empty-down first_standing c.in_ok-disk.disk c.in_ok-disk.ensures)

pub returns : goal.returns
returns c =
    first-up c.args.count c.args.me c.in_ok-cell.cell c.in_ok-cell.field-0-1 (c.in_ok-cell.ensures empty_seat (empty-down first_standing c.in_ok-disk.disk c.in_ok-disk.ensures))
