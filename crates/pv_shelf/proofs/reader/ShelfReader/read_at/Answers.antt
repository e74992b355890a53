-- What is found begins with what was seen, so it is of no fewer steps.
use Rattle.std.proofs.Common.{◌≡◌, ◌≤◌, List, sym, ap, subst, ◌∙◌}
use base.Growing.{prefix_refl}
use Rattle.left_right.specs.Sides.{view}
use Rattle.pv_shelf.specs.Part.{Part}
use Rattle.pv_shelf.specs.Log.{steps_of}
use Rattle.pv_shelf.specs.Shelves.{seen}
use Rattle.pv_shelf.specs.declared.view.View.{View}
use Rattle.pv_shelf.proofs.LogLemmas.{steps-rise}
use Rattle.pv_shelf.proofs.RuleLemmas.{finds}
use Rattle.pv_shelf.proofs.reader.ShelfReader.read_at.Goals as goal

pub enter_as-requires : goal.enter_as-requires
enter_as-requires c x = finds _ _ x x (λ log. log) (prefix_refl _)

pub returns-in-Ok-clause-rises : goal.returns-in-Ok-clause-rises
returns-in-Ok-clause-rises c =
    let found = c.in-Ok.ensures.1 in
    let same : (view c.leave.result.place).seen ≡ c.in-Ok.reading.part.value.parts.items = ap (λ (v : View). v.seen) c.leave.ensures.1 ∙ found.seen in
    subst (λ (log : List Part). steps_of (seen c.args.self) ≤ steps_of log) (sym same) (steps-rise (seen c.args.self) c.in-Ok.reading.part.value.parts.items found.log found.grows)
