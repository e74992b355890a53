use Rattle.pv_site.proofs.SendLemmas.{site_send}
use Rattle.pv_site.proofs.crossing.sites_cross_threads.Goals as goal

pub returns : goal.returns
returns g c = site_send _ g.L.Log c.type_bounds.send-L c.parts_cross_threads.ensures
