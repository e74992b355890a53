use Rattle.pv_shown.proofs.SendLemmas.{shown_send}
use Rattle.pv_shown.proofs.crossing.shown_cross_threads.Goals as goal

pub returns : goal.returns
returns g c = shown_send _ g.L.Log c.boxes_cross_threads.ensures
