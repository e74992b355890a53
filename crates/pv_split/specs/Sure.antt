-- Values that name no outcome.
use Rattle.std.specs.Prelude.{ℤ, List, [], ◌∷◌}
use Rattle.pv_base.specs.Polyvalue.{Case}
use Rattle.pv_model.specs.Alternatives.{Read}
use Rattle.pv_model.specs.Meaning.{Row}

-- the cases of a value that names no outcome
abbrev pub sure_cases : ℤ → List (Case ℤ)
sure_cases value = record { when = []; value = value } ∷ []

-- the row, whatever the outcomes
abbrev pub sure_read : Row → Read
sure_read row = record { item = row.item; cases = sure_cases row.value }
