use Rattle.std.proofs.Common.{sym, ◌∙◌}
use Rattle.std.proofs.lemmas.Bool.{false≢true}
use Rattle.pv_cases.proofs.TxnTests.{equal-txns, unequal-txns}
use Rattle.pv_poly.proofs.TopOfTree.{at_Test, at-sure, reduced-canonical}
use Rattle.pv_cases.proofs.TestLemmas.{aborted-side, committed-side, whole-side, behind-other, side-is}
use Rattle.pv_poly.proofs.tree.Tree.side.Goals as goal

pub returns-then-commits : goal.returns-then-commits
returns-then-commits g c =
    side-is (committed-side (at_Test c.self.view_is c.self.invariant c.in-Test.is)) (equal-txns c.in-Test.tested c.args.txn c.eq.ensures c.if-eq.true)
    c.if-commits.true c.deref.ensures

pub returns-else-commits : goal.returns-else-commits
returns-else-commits g c =
    side-is (aborted-side (at_Test c.self.view_is c.self.invariant c.in-Test.is)) (equal-txns c.in-Test.tested c.args.txn c.eq.ensures c.if-eq.true)
    c.if-commits.false c.deref-else-commits.ensures

pub returns-in_default : goal.returns-in_default
returns-in_default g c =
    let at = at_Test c.self.view_is c.self.invariant c.in-Test.is in
    whole-side c.args.txn c.args.commits (reduced-canonical c.self.inside.node c.self.view_is c.self.invariant)
    (behind-other at (unequal-txns c.in-Test.tested c.args.txn c.eq.ensures c.if-eq.false) c.requires)

pub returns-in_default-2 : goal.returns-in_default-2
returns-in_default-2 g c =
    whole-side c.args.txn c.args.commits (reduced-canonical c.self.inside.node c.self.view_is c.self.invariant)
    (λ named here. absurd (false≢true (sym (at-sure c.self.view_is c.in_default.is named) ∙ here)))
