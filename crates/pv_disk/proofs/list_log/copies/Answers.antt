use Rattle.std.proofs.Common.{rules}
use Rattle.pv_disk.proofs.ListLemmas.{copied_more}
use Rattle.pv_disk.proofs.list_log.copies.Goals as goal

pub loop-content-preserved : goal.loop-content-preserved
loop-content-preserved c = search (rules, copied_more)
