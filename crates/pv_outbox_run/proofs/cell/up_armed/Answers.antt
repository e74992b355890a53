-- The disk was lent by the log, and the log by the outbox.
use Rattle.std.proofs.Common.{Some}
use Rattle.pv_outbox_run.proofs.CellLemmas.{up-lent}
use Rattle.pv_outbox_run.proofs.cell.up_armed.Goals as goal

pub returns : goal.returns
returns c = λ box is.
    up-lent box (Some (record { left = c.args.k; mode = c.args.mode; stop = c.args.stop })) c.args.outbox c.log.result.now c.disk.result.now c.arm.new.self
    c.log.ensures.value c.disk.ensures.value c.arm.ensures is
