-- As many as there are in the list, which numbers go round.
use Rattle.std.proofs.Common.{arith}
use Rattle.pv_tree.proofs.MeaningLemmas.{length-view}
use Rattle.pv_tree.proofs.nodes.Nodes.len.Goals as goal

pub overflow_cast-result : goal.overflow_cast-result
overflow_cast-result g c = omega (arith, c.len.ensures, c.self.inside.list.ok.0, c.self.invariant.few)

pub returns : goal.returns
returns g c = omega (arith, c.len.ensures, c.self.inside.list.ok.0, length-view c.self.inside.list.items c.args.self.now c.self.view_is)
