use Rattle.pv_tree.proofs.nodes.Nodes.+value_at.Given as goal

abbrev pub decreases-value_at : goal.decreases-value_at
decreases-value_at g l = l.number
