-- One node more stands behind the others, and is what it is.
use Rattle.std.proofs.Common.{◌<◌, ◌+◌, ◌^◌, length, arith}
use Rattle.pv_tree.proofs.MeaningLemmas.{length-view, pushed-nodes, pushed-meanings, push-keeps, push-at}
use Rattle.pv_tree.specs.Nodes.{meaning_of}
use Rattle.pv_tree.proofs.nodes.Nodes.push.Goals as goal

pub invariant_of-self-2 : goal.invariant_of-self-2
invariant_of-self-2 g c =
    let nodes = c.self.inside.list.items in
    let few : length nodes + 1 < 2 ^ 32 = omega (arith, c.len-number.ensures, c.if-number.false, length-view nodes c.args.self.now c.self.view_is, c.self.invariant.few) in
    pushed-nodes nodes c.push.new.self.items c.args.node c.args.self.now c.self.view_is c.self.invariant c.requires few c.in_ok-push.ensures.items

pub returns-clause-kept : goal.returns-clause-kept
returns-clause-kept g c =
    push-keeps c.args.self.now _ (meaning_of c.args.self.now c.args.node)
    (pushed-meanings c.self.inside.list.items c.push.new.self.items c.args.node c.args.self.now c.self.view_is c.in_ok-push.ensures.items)

pub returns-clause-new : goal.returns-clause-new
returns-clause-new g c =
    push-at c.args.self.now _ (meaning_of c.args.self.now c.args.node) c.len-number.result
    (pushed-meanings c.self.inside.list.items c.push.new.self.items c.args.node c.args.self.now c.self.view_is c.in_ok-push.ensures.items)
    c.len-number.ensures
