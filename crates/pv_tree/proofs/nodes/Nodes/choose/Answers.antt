-- At first no choice is noted.
use Rattle.std.proofs.Common.{ℕ, List, Option, None, get_or, ap, ◌∙◌}
use Rattle.pv_tree.proofs.ChoosingLemmas.{none-chosen}
use Rattle.pv_tree.proofs.nodes.Nodes.choose.Goals as goal

pub choose_once-requires-clause-noted : goal.choose_once-requires-clause-noted
choose_once-requires-clause-noted g c =
    none-chosen c.args.txn c.args.self.now c.deref_mut.result.now
    (λ number. ap (λ (list : List (Option (ℕ × ℕ))). get_or list number None) c.deref_mut.ensures.value ∙ c.in_ok-noted.ensures number)
