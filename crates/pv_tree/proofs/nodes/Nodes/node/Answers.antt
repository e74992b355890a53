-- The node at a place of the list is the one with that number.
use Rattle.std.proofs.Common.{arith}
use Rattle.pv_tree.proofs.MeaningLemmas.{length-view, node-at, canonical-node}
use Rattle.pv_tree.proofs.nodes.Nodes.node.Goals as goal

pub index-requires : goal.index-requires
index-requires g c = omega (arith, c.requires, c.self.inside.list.ok.0, length-view c.self.inside.list.items c.args.self.now c.self.view_is)

pub returns-clause-node : goal.returns-clause-node
returns-clause-node g c = node-at c.self.inside.list.items c.args.self.now c.args.number c.index.result.now c.self.view_is c.self.invariant c.requires c.index.ensures

pub returns-clause-canonical : goal.returns-clause-canonical
returns-clause-canonical g c =
    canonical-node c.args.self.now c.args.number c.index.result.now
    (node-at c.self.inside.list.items c.args.self.now c.args.number c.index.result.now c.self.view_is c.self.invariant c.requires c.index.ensures)
