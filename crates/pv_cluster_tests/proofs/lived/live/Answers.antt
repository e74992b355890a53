-- The histories of the run have a merge.
use Rattle.std.proofs.lemmas.Result.{IfOk-weaker}
use Rattle.pv_cluster.specs.Endings.{KeptItsLog}
use Rattle.pv_cluster_tests.proofs.MergeLemmas.{can-be-merged}
use Rattle.pv_cluster_tests.proofs.lived.live.Goals as goal
use Rattle.pv_cluster_tests.specs.Merging.{CanBeMerged}

pub returns : goal.returns
returns g c =
    let boxes = c.in_ok-closed.closed.boxes.items in
    let catalog = c.args.script.now.catalog in
    IfOk-weaker c.lived_of.result _ (λ lived. CanBeMerged catalog lived.histories.items)
    (λ lived is. can-be-merged g.L.Log.model catalog c.args.sites.items boxes (λ n site one. KeptItsLog g.L.Log.model site one.site) c.in_ok-closed.ensures.boxes lived.histories.items is c.in_ok-closed.ensures.fit c.in_ok-closed.ensures.done)
    c.lived_of.ensures
