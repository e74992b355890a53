-- The cases that a decision tree stands for.
use Rattle.std.specs.Prelude.{false, true, List, [], ◌∷◌, ◌++◌}
use Rattle.pv_base.specs.Polyvalue.{Case, under}
use Rattle.pv_cases.specs.Sides.{AreSides}
use Rattle.pv_poly.specs.declared.tree.Node.{Node}
use Rattle.pv_poly.specs.declared.tree.Node.TheVariants.{Sure, Test}

-- the leaves from left to right, each under the literals on the way to it
abbrev pub cases_of : {V : Type 0} → Node V → List (Case V)
cases_of (Sure value) = record { when = []; value = value } ∷ []
cases_of (Test txn aborted committed) = under txn false aborted.value ++ under txn true committed.value

-- Each test is of an earlier transaction than those on its sides, and is needed.
abbrev pub IsReduced : {V : Type 0} → Node V → Type 0
IsReduced (Sure value) = Unit {0}
IsReduced (Test txn aborted committed) = AreSides txn aborted.value committed.value
