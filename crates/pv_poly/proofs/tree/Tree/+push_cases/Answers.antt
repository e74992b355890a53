use Rattle.std.proofs.Common.{true, false, List, [], ◌∷◌, ◌++◌, ap, ◌∙◌}
use Rattle.std.specs.List.{each_same}
use Rattle.pv_base.specs.declared.literal.Literal.{Literal}
use Rattle.pv_cases.proofs.PushedCases.{pushed-sure, pushed-test, popped-way}
use Rattle.pv_poly.proofs.TopOfTree.{at_Test, at_Sure}
use Rattle.pv_poly.proofs.tree.Tree.+push_cases.Goals as goal

pub returns-in_ok-push-in-Sure-clause-cases : goal.returns-in_ok-push-in-Sure-clause-cases
returns-in_ok-push-in-Sure-clause-cases g t c =
    pushed-sure c.args.self.now c.args.way.now.items c.in_ok-clone-in-Sure.field-0.items c.in-Sure.value c.args.cases.now.items c.push.new.self.items
    (at_Sure c.self.view_is c.in-Sure.is)
    (each_same c.args.way.now.items c.in_ok-clone-in-Sure.field-0.items c.in_ok-clone-in-Sure.ensures.cases.0)
    c.in_ok-push-in-Sure.ensures.items

pub returns-in_ok-push_cases-in-Test-2-clause-cases :
    goal.returns-in_ok-push_cases-in-Test-2-clause-cases
returns-in_ok-push_cases-in-Test-2-clause-cases g t c =
    let way = c.args.way.now.items in
    let first = c.push-in-Test.new.self.items in
    let second = c.push-in-Test-2.new.self.items in
    let popped =
    popped-way way c.push_cases.new.way.items c.pop.new.self.items (record { txn = c.in-Test.txn; commits = false }) _
    (c.in_ok-push_cases-in-Test.ensures.way ∙ c.in_ok-push-in-Test.ensures.items) c.push_cases.new.way.ok.0 c.pop.ensures.rest in
    pushed-test c.args.self.now way first second c.in-Test.txn c.in-Test.aborted.value c.in-Test.committed.value
    c.deref.result.now c.deref-in-Test.result.now c.args.cases.now.items c.push_cases.new.cases.items c.push_cases-in-Test.new.cases.items
    (at_Test c.self.view_is c.self.invariant c.in-Test.is) c.deref.ensures c.deref-in-Test.ensures
    c.in_ok-push-in-Test.ensures.items
    (c.in_ok-push-in-Test-2.ensures.items ∙ ap (λ (w : List Literal). w ++ record { txn = c.in-Test.txn; commits = true } ∷ []) popped)
    c.in_ok-push_cases-in-Test.ensures.cases c.in_ok-push_cases-in-Test-2.ensures.cases
