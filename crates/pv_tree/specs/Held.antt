-- The cases of a polyvalue, wherever they stand.
use Rattle.std.specs.Prelude.{◌≡◌, ⊤, List, length}
use Rattle.std.specs.Arc.{arc_value}
use Rattle.pv_base.specs.Polyvalue.{Case}
use Rattle.pv_tree.specs.declared.tree.Held.{Held}
use Rattle.pv_tree.specs.declared.tree.Held.TheVariants.{One, Two, Many}

module _ {V : Type 0} where
  -- the cases, wherever they stand
  abbrev pub held_cases : Held V → List (Case V)
  held_cases (One cases) = cases
  held_cases (Two cases) = cases
  held_cases (Many branches) = arc_value branches

  -- There are one case or two, or branches, which have the nodes beside their cases.
  abbrev pub HasTree : Held V → Type 0
  HasTree (One cases) = length cases ≡ 1
  HasTree (Two cases) = length cases ≡ 2
  HasTree (Many branches) = ⊤
