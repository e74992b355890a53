use Rattle.std.proofs.Common.{◌+◌, length}
use Rattle.pv_tree.specs.Meanings.{cases_at}
use Rattle.pv_tree.proofs.nodes.Nodes.+choose_once.Given as goal

abbrev pub decreases-choose_once : goal.decreases-choose_once
decreases-choose_once g l = length (cases_at l.self.now l.aborted) + length (cases_at l.self.now l.committed)
