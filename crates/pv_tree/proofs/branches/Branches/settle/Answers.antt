-- At first nothing is noted.
use Rattle.std.proofs.Common.{ℕ, List, Option, None, get_or, ap, ◌∙◌}
use Rattle.pv_tree.proofs.SettleLemmas.{none-noted}
use Rattle.pv_tree.proofs.branches.Branches.settle.Goals as goal

pub settle-requires-clause-noted : goal.settle-requires-clause-noted
settle-requires-clause-noted g c =
    none-noted c.args.literals.now c.self.inside.nodes c.args.target.now c.deref_mut.result.now
    (λ number. ap (λ (list : List (Option ℕ)). get_or list number None) c.deref_mut.ensures.value ∙ c.in_ok-noted.ensures number)
