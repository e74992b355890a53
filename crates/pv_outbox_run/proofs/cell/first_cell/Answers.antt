-- An outbox that was never up is started.
use Rattle.std.proofs.Common.{false, [], refl, subst}
use Rattle.pv_format.specs.Checkpoint.{first_standing}
use Rattle.pv_outbox_run.specs.Box.{Box, first_box}
use Rattle.pv_outbox_run.specs.Stands.{Stands}
use Rattle.pv_outbox_run.proofs.cell.first_cell.Goals as goal

pub started-requires : goal.started-requires
started-requires c = (
  record first_box { is_up = false },
  record { down = refl; contents = []; spelled = tt; standing = first_standing; holds = c.in_ok-disk.ensures },
)

pub returns : goal.returns
returns c =
    let comes =
    c.in_ok-cell.ensures (record first_box { is_up = false })
    (record { down = refl; contents = []; spelled = tt; standing = first_standing; holds = c.in_ok-disk.ensures }) in
    subst (λ (box : Box). Stands c.in_ok-cell.cell box) comes.2.1 comes.1
