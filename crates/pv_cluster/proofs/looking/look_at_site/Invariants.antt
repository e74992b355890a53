-- The rings between the site and those so far were looked at.
use Rattle.pv_cluster.proofs.LookLemmas.{AreBroughtWith}
use Rattle.pv_cluster.proofs.looking.look_at_site.Given as goal
use Rattle.pv_cluster.specs.Looks.{AllStill}

abbrev pub invariant-loop-before : goal.invariant-loop-before
invariant-loop-before g l = AllStill l.fn.boxes.items l.boxes.items × AreBroughtWith l.at l.before l.fn.boxes.items
