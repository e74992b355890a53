use Rattle.std.proofs.Common.{Some}
use Rattle.pv_outbox_run.proofs.CellLemmas.{down-rearmed}
use Rattle.pv_outbox_run.proofs.cell.disk_armed.Goals as goal

pub returns : goal.returns
returns c = λ box is.
    down-rearmed box (Some (record { left = c.args.k; mode = c.args.mode; stop = c.args.stop })) c.args.disk c.arm.new.self is c.arm.ensures
