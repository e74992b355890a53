-- Values that name no outcome.
use Rattle.std.specs.Prelude.{Bool, false, List, [], ◌∷◌, length, ◌==◌}
use Rattle.pv_base.specs.Polyvalue.{Case}

-- whether there is one case alone, which is always met
abbrev pub is_one_case : {V : Type 0} → List (Case V) → Bool
is_one_case [] = false
is_one_case (case ∷ []) = length case.when == 0
is_one_case (case ∷ next ∷ more) = false
