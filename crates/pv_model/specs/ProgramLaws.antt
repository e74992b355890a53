-- What the laws of programs speak of.
use Rattle.std.specs.Prelude.{◌≡◌, ℕ, Bool, false, ◌||◌, ◌==◌, List, IsTrue}
use Rattle.pv_model.specs.Syntax.{Program, end, assign, require, certain, return, when, when_else}
use Rattle.pv_model.specs.Meaning.{Row, value_in}
use Rattle.pv_model.specs.Items.{lacks}

-- Some assignment of the program names the item.
abbrev pub assigns : Program → ℕ → Bool
assigns end n = false
assigns (assign m e next) n = (m == n) || assigns next n
assigns (require e next) n = assigns next n
assigns (certain m next) n = assigns next n
assigns (return e next) n = assigns next n
assigns (when e body next) n = assigns body n || assigns next n
assigns (when_else e body other next) n = assigns body n || (assigns other n || assigns next n)

-- the statements of one program and then those of another
abbrev pub followed : Program → Program → Program
followed end after = after
followed (assign n e next) after = assign n e (followed next after)
followed (require e next) after = require e (followed next after)
followed (certain n next) after = certain n (followed next after)
followed (return e next) after = return e (followed next after)
followed (when e body next) after = when e body (followed next after)
followed (when_else e body other next) after = when_else e body other (followed next after)

-- Of the items of a set, two lists of rows have the same ones with the same values.
abbrev pub HaveSameValuesOf : (ℕ → Bool) → List Row → List Row → Type 0
HaveSameValuesOf set rows others = (n : ℕ) → IsTrue (set n) → (lacks rows n ≡ lacks others n) × (value_in rows n ≡ value_in others n)

-- Two lists of rows have the same items with the same values, as two orders of the same rows have.
abbrev pub HaveSameValues : List Row → List Row → Type 0
HaveSameValues rows others = (n : ℕ) → (lacks rows n ≡ lacks others n) × (value_in rows n ≡ value_in others n)
