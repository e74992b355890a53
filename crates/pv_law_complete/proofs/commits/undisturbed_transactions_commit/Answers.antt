-- The lemma, of both kinds of runs.
use Rattle.pv_law_refusals.proofs.Chains.{any-run-links, run-links}
use Rattle.pv_law_complete.proofs.GoneLemmas.{faults-gone, run-gone}
use Rattle.pv_law_complete.proofs.RunLemmas.{undisturbed-commit}
use Rattle.pv_law_complete.proofs.commits.undisturbed_transactions_commit.Goals as goal
use Rattle.pv_law_world.proofs.TransitionLemmas.{run-transitions}
use Rattle.pv_protocol.specs.Run.{run}
use Rattle.pv_protocol.specs.World.{opening}

pub returns-clause-run : goal.returns-clause-run
returns-clause-run c = λ setup room events well.
    let all = run setup (opening setup) events in
    let links = run-links setup events well in
    undisturbed-commit setup room all (run-gone setup (opening setup) all (run-transitions setup (opening setup) events) links) links

pub returns-clause-faults : goal.returns-clause-faults
returns-clause-faults c = λ setup room transitions faults.
    undisturbed-commit setup room transitions (faults-gone setup (opening setup) transitions faults) (any-run-links setup transitions faults)
