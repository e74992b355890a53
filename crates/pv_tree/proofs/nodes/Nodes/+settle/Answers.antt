-- Each way puts the node among the others, and notes it.
use Rattle.std.proofs.Common.{◌≡◌, true, false, Some, None, sym, ap, ◌∙◌}
use Rattle.pv_tree.specs.Outcomes.{outcome_of}
use Rattle.pv_tree.proofs.SettlesLemmas.{found-into, leaf-into, committed-into, aborted-into, test-into}
use Rattle.pv_tree.proofs.nodes.Nodes.+settle.Goals as goal

pub returns-in-Some : goal.returns-in-Some
returns-in-Some g t c =
    found-into c.args.literals.now c.args.self.now c.args.target.now c.args.noted.now c.args.number c.in-Some.found c.requires.noted (sym c.noted_at.ensures ∙ c.in-Some.is)

pub returns-in_ok-made-in-Leaf : goal.returns-in_ok-made-in-Leaf
returns-in_ok-made-in-Leaf g t c =
    leaf-into c.args.literals.now c.args.self.now c.args.target.now c.leaf.new.self c.args.noted.now c.note.new.noted c.args.number c.in_ok-made-in-Leaf.made c.in-Leaf.value
    c.in-Leaf.ensures.node c.requires.noted c.in_ok-made-in-Leaf.ensures.kept c.in_ok-made-in-Leaf.ensures.leaf c.note.ensures

pub returns-in_ok-made-in-Some-true : goal.returns-in_ok-made-in-Some-true
returns-in_ok-made-in-Some-true g t c =
    let known : outcome_of c.args.literals.now c.in-Test.txn ≡ Some true = sym c.outcome_of.ensures ∙ c.in-Some-true.is ∙ ap Some c.in-Some-true.field-0-test in
    committed-into c.args.literals.now c.args.self.now c.args.target.now c.settle.new.target c.settle.new.noted c.note-in-Some-true.new.noted c.args.number
    c.in_ok-made-in-Some-true.made c.in-Test.ensures.node known c.in_ok-made-in-Some-true.ensures c.note-in-Some-true.ensures

pub returns-in_ok-made-in-Some-false : goal.returns-in_ok-made-in-Some-false
returns-in_ok-made-in-Some-false g t c =
    let known : outcome_of c.args.literals.now c.in-Test.txn ≡ Some false = sym c.outcome_of.ensures ∙ c.in-Some-false.is ∙ ap Some c.in-Some-false.field-0-test in
    aborted-into c.args.literals.now c.args.self.now c.args.target.now c.settle-in-Some-false.new.target c.settle-in-Some-false.new.noted c.note-in-Some-false.new.noted c.args.number
    c.in_ok-made-in-Some-false.made c.in-Test.ensures.node known c.in_ok-made-in-Some-false.ensures c.note-in-Some-false.ensures

pub returns-in_ok-made-in-None : goal.returns-in_ok-made-in-None
returns-in_ok-made-in-None g t c =
    let unknown : outcome_of c.args.literals.now c.in-Test.txn ≡ None = sym c.outcome_of.ensures ∙ c.in-None.is in
    test-into c.args.literals.now c.args.self.now
    {old = c.args.target.now} {middle = c.settle-in-None.new.target} {new = c.settle-in-None-2.new.target} {noted = c.settle-in-None.new.noted} {noted' = c.settle-in-None-2.new.noted}
    {aborted = c.in-Test.aborted} {committed = c.in-Test.committed} {front = c.in_ok-aborted-in-None.aborted} {back = c.in_ok-committed-in-None.committed}
    c.test.new.self c.note-in-None.new.noted c.args.number c.in_ok-made-in-None.made c.in-Test.ensures.node unknown
    (record { first = c.in_ok-aborted-in-None.ensures; second = c.in_ok-committed-in-None.ensures })
    c.in_ok-made-in-None.ensures.kept c.in_ok-made-in-None.ensures.test c.note-in-None.ensures
