use Rattle.std.proofs.Common.{arith}
use Rattle.pv_opening.proofs.OpenLemmas.{count-few}
use Rattle.pv_opening.proofs.ScriptLemmas.{clients-fit, clients-look, few-clients}
use Rattle.pv_opening.proofs.scripts.live_scripts_are_small.Goals as goal

pub returns-clause-few : goal.returns-clause-few
returns-clause-few c script read = few-clients script read

pub returns-clause-places : goal.returns-clause-places
returns-clause-places c script site read =
    let mine = count-few site script.clients.items in
    let few = few-clients script read in
    omega (arith, mine, few)

pub returns-clause-fit : goal.returns-clause-fit
returns-clause-fit c script k any read less = clients-fit script read k any less

pub returns-clause-here : goal.returns-clause-here
returns-clause-here c script k any read less = clients-look script read k any less
