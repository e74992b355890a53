-- The disk was lent by the log, and the log by the outbox.
use Rattle.std.proofs.Common.{None}
use Rattle.pv_outbox_run.proofs.CellLemmas.{up-lent}
use Rattle.pv_outbox_run.proofs.cell.up_mended.Goals as goal

pub returns : goal.returns
returns c = λ box is.
    up-lent box None c.args.outbox c.log.result.now c.disk.result.now c.mend.new.self c.log.ensures.value c.disk.ensures.value c.mend.ensures is
