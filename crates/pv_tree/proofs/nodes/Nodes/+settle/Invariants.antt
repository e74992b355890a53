use Rattle.pv_tree.proofs.nodes.Nodes.+settle.Given as goal

abbrev pub decreases-settle : goal.decreases-settle
decreases-settle g l = l.number
