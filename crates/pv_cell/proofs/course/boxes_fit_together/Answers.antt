use Rattle.pv_cell.proofs.TogetherLemmas.{go-together}
use Rattle.pv_cell.proofs.course.boxes_fit_together.Goals as goal
use Rattle.pv_cell.specs.Together.{histories_of, traffics_of}
use Rattle.pv_site.specs.SiteState.{setup_of}

pub returns : goal.returns
returns g c catalog boxes are = c.sites_go_by_rings.ensures.fit (setup_of catalog) (histories_of boxes) (traffics_of boxes) (go-together catalog boxes are)
