use Rattle.pv_tree.proofs.nodes.Nodes.+same.Given as goal

abbrev pub decreases-same : goal.decreases-same
decreases-same g l = l.number
