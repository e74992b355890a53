-- The first nodes have their cases.
use Rattle.pv_tree.proofs.MeaningLemmas.{cut-nodes, cut-length, cut-kept}
use Rattle.pv_tree.proofs.nodes.Nodes.up_to.Goals as goal

pub invariant_of-self : goal.invariant_of-self
invariant_of-self g c = cut-nodes c.self.inside.list.items _ _ c.self.invariant c.truncate.ensures.items

pub returns-clause-length : goal.returns-clause-length
returns-clause-length g c = cut-length c.self.inside.list.items _ c.args.self c.args.number c.self.view_is c.requires c.truncate.ensures.items

pub returns-clause-kept : goal.returns-clause-kept
returns-clause-kept g c = cut-kept c.self.inside.list.items _ c.args.self c.args.number c.self.view_is c.truncate.ensures.items
