use Rattle.pv_law_complete.proofs.FrameLemmas.{steps-frame}
use Rattle.pv_law_complete.proofs.frames.steps_leave_others.Goals as goal

pub returns : goal.returns
returns c here input txn other = steps-frame here input txn other
