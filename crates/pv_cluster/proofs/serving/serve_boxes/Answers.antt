-- The boxes that come back are later ones of those that went.
use Rattle.pv_cluster.proofs.ServeLemmas.{left-over, went-on}
use Rattle.pv_cluster.proofs.serving.serve_boxes.Goals as goal

pub returns-clause-boxes : goal.returns-clause-boxes
returns-clause-boxes g c =
    went-on g.L.Log.model c.args.boxes.items c.in_ok-turns.turns.items c.in_ok-turns-2.turns.items c.in_ok-boxes.boxes.items c.in_ok-turns.ensures
    c.in_ok-turns-2.ensures.values c.in_ok-boxes.ensures

pub returns-clause-clients : goal.returns-clause-clients
returns-clause-clients g c = left-over c.args.clients.items c.in_ok-turns-2.clients.items c.in_ok-clients.clients.items c.in_ok-turns-2.ensures.clients c.in_ok-clients.ensures
