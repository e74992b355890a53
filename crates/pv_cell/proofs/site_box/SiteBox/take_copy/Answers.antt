use Rattle.pv_cell.proofs.ArrivalLemmas.{copy-takes}
use Rattle.pv_cell.proofs.site_box.SiteBox.take_copy.Goals as goal

pub returns-in-Ok-clause-takes : goal.returns-in-Ok-clause-takes
returns-in-Ok-clause-takes g c =
    copy-takes g.L.Log.model c.args.self.now c.args.client c.args.request.now c.in-Ok.copy c.in-Ok.ensures.request c.in-Ok.ensures.plan
    c.take_asked.new.self c.take_asked.result c.take_asked.ensures.takes
