use Rattle.pv_poly.proofs.TopOfTree.{at_Test}
use Rattle.pv_cases.proofs.TestLemmas.{test-named, test-from}
use Rattle.pv_poly.proofs.tree.Tree.top.Goals as goal

pub returns-in-Test : goal.returns-in-Test
returns-in-Test g c =
    let at = at_Test c.self.view_is c.self.invariant c.in-Test.is in
    (test-named at, test-from at)
