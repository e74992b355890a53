use Rattle.std.proofs.Common.{rules}
use Rattle.pv_cases.proofs.TxnTests.{unequal-txns}
use Rattle.pv_poly.proofs.TopOfTree.{at_Test}
use Rattle.pv_cases.proofs.TestLemmas.{one-test}
use Rattle.pv_poly.proofs.tree.Tree.+same.Goals as goal
use Rattle.pv_poly.proofs.tree.Tree.+same.Goals.{then-eq, else-eq}

pub returns-then-same-clause-unequal : goal.returns-then-same-clause-unequal
returns-then-same-clause-unequal g t c same =
    let parts = one-test (at_Test c.self.view_is c.self.invariant c.in-Test-Test.is-0) (at_Test c.other.view_is c.other.invariant c.in-Test-Test.is-1) same in
    let e = parts.1.1 in
    c.same-then-same.ensures.unequal (search rules)

pub returns-else-same-clause-unequal : goal.returns-else-same-clause-unequal
returns-else-same-clause-unequal g t c same =
    let parts = one-test (at_Test c.self.view_is c.self.invariant c.in-Test-Test.is-0) (at_Test c.other.view_is c.other.invariant c.in-Test-Test.is-1) same in
    let e = parts.1.0 in
    elim c.if-eq.branch [
      | then-eq w ↦ let r = w.same.ensures.unequal (search rules) in cc (r, w.value-is)
      | else-eq w ↦ absurd (unequal-txns c.in-Test-Test.txn c.in-Test-Test.second c.eq-in-Test-Test.ensures w.if-eq.false parts.0)
    ]
