-- A test names its transaction, and nothing before it.
use Rattle.pv_cases.proofs.TestLemmas.{test-named, test-from}
use Rattle.pv_tree.proofs.SettleLemmas.{tested-at}
use Rattle.pv_tree.proofs.nodes.Nodes.top.Goals as goal

pub returns-in-Test : goal.returns-in-Test
returns-in-Test g c =
    let at = tested-at c.in-Test.ensures.node in
    (test-named at, test-from at)
