use Rattle.pv_cell.proofs.OpenLemmas.{new-first, new-opened}
use Rattle.pv_cell.proofs.opened.new_sites_fit_boxes.Goals as goal

pub returns-clause-opened : goal.returns-clause-opened
returns-clause-opened g c log me catalog site first opened = new-opened g.L.Log.model log me catalog site first opened

pub returns-clause-first : goal.returns-clause-first
returns-clause-first g c log me catalog site first opened = new-first g.L.Log.model log me catalog site first opened
