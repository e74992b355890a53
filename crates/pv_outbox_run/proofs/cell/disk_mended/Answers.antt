use Rattle.std.proofs.Common.{None}
use Rattle.pv_outbox_run.proofs.CellLemmas.{down-rearmed}
use Rattle.pv_outbox_run.proofs.cell.disk_mended.Goals as goal

pub returns : goal.returns
returns c = λ box is. down-rearmed box None c.args.disk c.mend.new.self is c.mend.ensures
