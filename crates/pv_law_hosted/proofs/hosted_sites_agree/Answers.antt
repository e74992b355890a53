use Rattle.pv_law_hosted.proofs.AgreeLemmas.{out-printed, shown-agrees, shown-within}
use Rattle.pv_law_hosted.proofs.MirroredLemmas.{out-there}
use Rattle.pv_law_hosted.proofs.hosted_sites_agree.Goals as goal

pub returns-clause-sent : goal.returns-clause-sent
returns-clause-sent c setup d events n envelope mirrored below there = out-there setup d events mirrored n envelope below there

pub returns-clause-printed : goal.returns-clause-printed
returns-clause-printed c = out-printed

pub returns-clause-shown : goal.returns-clause-shown
returns-clause-shown c setup d events hosted assignment i item mirrored is here le readable fits =
    shown-agrees setup d events hosted assignment i item (c.worlds_agree.ensures.run setup events mirrored.well)
    (c.mirrored_deployments_agree.ensures.shown setup d events item.site hosted mirrored (shown-within setup d events hosted item.site mirrored here) here le)
    is readable fits
