-- A test of the transaction has its sides, and a node that tests a later one is its own side.
use Rattle.std.proofs.Common.{refl}
use Rattle.pv_cases.proofs.TxnTests.{equal-txns, unequal-txns}
use Rattle.pv_cases.proofs.TestLemmas.{aborted-side, committed-side, whole-side, behind-other, side-is}
use Rattle.pv_tree.proofs.SettleLemmas.{tested-at}
use Rattle.pv_tree.proofs.nodes.Nodes.side.Goals as goal

pub returns-then-commits-clause-side : goal.returns-then-commits-clause-side
returns-then-commits-clause-side g c =
    side-is (committed-side (tested-at c.in-Test.ensures.node)) (equal-txns c.in-Test.tested c.args.txn c.eq.ensures c.if-eq.true) c.if-commits.true refl

pub returns-else-commits-clause-side : goal.returns-else-commits-clause-side
returns-else-commits-clause-side g c =
    side-is (aborted-side (tested-at c.in-Test.ensures.node)) (equal-txns c.in-Test.tested c.args.txn c.eq.ensures c.if-eq.true) c.if-commits.false refl

pub returns-in_default-clause-side : goal.returns-in_default-clause-side
returns-in_default-clause-side g c =
    whole-side c.args.txn c.args.commits c.node.ensures.canonical
    (behind-other (tested-at c.in-Test.ensures.node) (unequal-txns c.in-Test.tested c.args.txn c.eq.ensures c.if-eq.false) c.requires.from)
