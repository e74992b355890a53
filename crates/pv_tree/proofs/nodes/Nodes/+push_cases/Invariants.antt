use Rattle.pv_tree.proofs.nodes.Nodes.+push_cases.Given as goal

abbrev pub decreases-push_cases : goal.decreases-push_cases
decreases-push_cases g l = l.number
