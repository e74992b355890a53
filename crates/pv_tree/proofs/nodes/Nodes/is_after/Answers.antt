-- A test names its transaction first.
use Rattle.std.proofs.Common.{sym, ◌∙◌}
use Rattle.pv_tree.proofs.AfterLemmas.{test-after}
use Rattle.pv_tree.proofs.SettleLemmas.{tested-at}
use Rattle.pv_tree.proofs.nodes.Nodes.is_after.Goals as goal

pub returns-in-Test : goal.returns-in-Test
returns-in-Test g c = λ before. test-after c.args.txn (tested-at c.in-Test.ensures.node) (sym c.is_before.ensures ∙ before)
