-- A test adds its transaction, and what its sides add.
use Rattle.std.proofs.Common.{refl}
use Rattle.pv_base.specs.Polyvalue.{names}
use Rattle.pv_cases.proofs.AddedNames.{adds-nothing}
use Rattle.pv_poly.proofs.PushedNames.{adds-test}
use Rattle.pv_poly.proofs.TopOfTree.{at-sure, at_Test}
use Rattle.pv_poly.proofs.tree.Tree.+push_names.Goals as goal

pub returns-in-Sure : goal.returns-in-Sure
returns-in-Sure g t c = adds-nothing (names c.args.self.now) c.args.txns.now.items _ (at-sure c.self.view_is c.in-Sure.is) refl

pub returns-in_ok-push_names-in-Test-2 : goal.returns-in_ok-push_names-in-Test-2
returns-in_ok-push_names-in-Test-2 g t c =
    adds-test c.in-Test.txn c.in-Test.aborted.value c.in-Test.committed.value c.args.self.now c.deref.result.now c.deref-in-Test.result.now
    c.args.txns.now.items c.push.new.self.items c.push_names.new.txns.items c.push_names-in-Test.new.txns.items
    (at_Test c.self.view_is c.self.invariant c.in-Test.is) c.deref.ensures c.deref-in-Test.ensures
    c.in_ok-push-in-Test.ensures.items c.in_ok-push_names-in-Test.ensures c.in_ok-push_names-in-Test-2.ensures
