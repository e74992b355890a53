use Rattle.pv_disk.proofs.ImageLemmas.{mark_last_is}
use Rattle.pv_disk.proofs.image.mark_last.Goals as goal

pub returns-in-len1-up : goal.returns-in-len1-up
returns-in-len1-up c = mark_last_is c.args.writes.now c.index-writes-writes.result c.in-len1-up.len_at_least
