-- The cases that a polyvalue holds.
use Rattle.std.specs.Prelude.{List}
use Rattle.pv_base.specs.Polyvalue.{Case}
use Rattle.pv_poly.specs.declared.held.Cases.{Cases}
use Rattle.pv_poly.specs.declared.held.Cases.TheVariants.{One, Many}

-- the cases, wherever they stand
abbrev pub held_cases : {V : Type 0} → Cases V → List (Case V)
held_cases (One cases) = cases
held_cases (Many cases) = cases.items
