use base.Growing.{prefix_refl}
use Rattle.pv_shelf.proofs.RuleLemmas.{finds}
use Rattle.pv_shelf.proofs.closing.finish.Goals as goal

pub enter_as-requires : goal.enter_as-requires
enter_as-requires g c x = finds _ _ x x (λ log. log) (prefix_refl _)
