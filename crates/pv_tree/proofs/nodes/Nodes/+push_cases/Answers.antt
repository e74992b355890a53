-- A leaf's case has the literals of the way, and those of a test are put under its outcomes.
use Rattle.std.proofs.Common.{refl, true, false, List, [], ◌∷◌, ◌++◌, ap, ◌∙◌}
use Rattle.pv_base.specs.declared.literal.Literal.{Literal}
use Rattle.pv_cases.proofs.PushedCases.{pushed-sure, pushed-test, popped-way}
use Rattle.pv_tree.specs.Meanings.{cases_at}
use Rattle.pv_tree.proofs.SettleLemmas.{tested-at}
use Rattle.pv_tree.proofs.nodes.Nodes.+push_cases.Goals as goal

pub returns-in_ok-push-in-Leaf-clause-cases : goal.returns-in_ok-push-in-Leaf-clause-cases
returns-in_ok-push-in-Leaf-clause-cases g t c =
    pushed-sure (cases_at c.args.self.now c.args.number) c.args.way.now.items c.in_ok-when-in-Leaf.when.items c.in-Leaf.value c.args.cases.now.items c.push.new.self.items
    c.in-Leaf.ensures.node
    (c.in_ok-when-in-Leaf.ensures ∙ c.deref.ensures.value)
    c.in_ok-push-in-Leaf.ensures.items

pub returns-in_ok-push_cases-in-Test-2-clause-cases : goal.returns-in_ok-push_cases-in-Test-2-clause-cases
returns-in_ok-push_cases-in-Test-2-clause-cases g t c =
    let way = c.args.way.now.items in
    let first = c.push-in-Test.new.self.items in
    let second = c.push-in-Test-2.new.self.items in
    let aborted = cases_at c.args.self.now c.in-Test.aborted in
    let committed = cases_at c.args.self.now c.in-Test.committed in
    let popped =
    popped-way way c.push_cases.new.way.items c.pop.new.self.items (record { txn = c.in-Test.txn; commits = false }) _
    (c.in_ok-push_cases-in-Test.ensures.way ∙ c.in_ok-push-in-Test.ensures.items) c.push_cases.new.way.ok.0 c.pop.ensures.rest in
    pushed-test (cases_at c.args.self.now c.args.number) way first second c.in-Test.txn aborted committed aborted committed
    c.args.cases.now.items c.push_cases.new.cases.items c.push_cases-in-Test.new.cases.items
    (tested-at c.in-Test.ensures.node) refl refl
    c.in_ok-push-in-Test.ensures.items
    (c.in_ok-push-in-Test-2.ensures.items ∙ ap (λ (w : List Literal). w ++ record { txn = c.in-Test.txn; commits = true } ∷ []) popped)
    c.in_ok-push_cases-in-Test.ensures.cases c.in_ok-push_cases-in-Test-2.ensures.cases
