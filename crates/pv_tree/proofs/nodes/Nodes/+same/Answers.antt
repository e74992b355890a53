-- Equal cases are those of leaves of one value, or of tests of one transaction whose sides have equal cases.
use Rattle.std.proofs.Common.{sym}
use Rattle.pv_cases.proofs.TxnTests.{unequal-txns}
use Rattle.pv_tree.proofs.SameLemmas.{one-sides, leaf-no-test}
use Rattle.pv_tree.proofs.nodes.Nodes.+same.Goals as goal
use Rattle.pv_tree.proofs.nodes.Nodes.+same.Goals.{then-eq, else-eq}

pub returns-then-same-clause-unequal : goal.returns-then-same-clause-unequal
returns-then-same-clause-unequal g t c same =
    let parts = one-sides c.args.self.now c.args.number c.args.other c.in-Test-Test.ensures.node c.in-Test-Test.ensures'.node same in
    c.same-then-same.ensures.unequal parts.1.1

pub returns-else-same-clause-unequal : goal.returns-else-same-clause-unequal
returns-else-same-clause-unequal g t c same =
    let parts = one-sides c.args.self.now c.args.number c.args.other c.in-Test-Test.ensures.node c.in-Test-Test.ensures'.node same in
    elim c.if-eq.branch [
      | then-eq w ↦ let r = w.same.ensures.unequal parts.1.0 in cc (r, w.value-is)
      | else-eq w ↦ absurd (unequal-txns c.in-Test-Test.txn c.in-Test-Test.second c.eq-in-Test-Test.ensures w.if-eq.false parts.0)
    ]

pub returns-in_default-clause-unequal : goal.returns-in_default-clause-unequal
returns-in_default-clause-unequal g t c same = absurd (leaf-no-test c.args.self.now c.args.number c.args.other c.in_default.ensures.node c.in_default.ensures'.node same)

pub returns-in_default-2-clause-unequal : goal.returns-in_default-2-clause-unequal
returns-in_default-2-clause-unequal g t c same = absurd (leaf-no-test c.args.self.now c.args.other c.args.number c.in_default.ensures'.node c.in_default.ensures.node (sym same))
