-- One case alone is settled as it is.
use Rattle.std.proofs.Common.{sym, ap, ◌∙◌}
use Rattle.std.proofs.lemmas.Result.{IfOk-weaker}
use Rattle.pv_tree.specs.Held.{held_cases}
use Rattle.pv_tree.specs.Settling.{Settles}
use Rattle.pv_tree.proofs.SettleLemmas.{leaf-settles}
use Rattle.pv_tree.proofs.tree.Tree.settle.Goals as goal

pub returns-in-One-clause-settled : goal.returns-in-One-clause-settled
returns-in-One-clause-settled g c =
    IfOk-weaker c.leaf.result _ (Settles c.args.literals.now c.args.self.now c.leaf.new.self)
    (λ number at. leaf-settles c.args.literals.now c.args.self.now c.only_value.result c.leaf.new.self number
    (sym (sym (ap held_cases c.in-One.is) ∙ c.self.view_is) ∙ c.only_value.ensures) at) c.leaf.ensures.leaf
