-- The value is that of the side that the assignment takes.
use Rattle.pv_tree.proofs.SettleLemmas.{value-committed, value-aborted}
use Rattle.pv_tree.proofs.nodes.Nodes.+value_at.Goals as goal

pub returns-then-commits : goal.returns-then-commits
returns-then-commits g t c = value-committed c.in-Test.ensures.node c.args.yes.now c.commits.ensures c.if-commits.true c.value_at.ensures

pub returns-else-commits : goal.returns-else-commits
returns-else-commits g t c = value-aborted c.in-Test.ensures.node c.args.yes.now c.commits.ensures c.if-commits.false c.value_at-in-Test.ensures
