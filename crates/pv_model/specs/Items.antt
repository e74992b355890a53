-- Whether rows have each item of a program once.
use Rattle.std.specs.Prelude.{ℕ, Bool, true, false, ◌&&◌, ◌==◌, List, [], ◌∷◌, if◌then◌else◌}
use Rattle.pv_model.specs.Syntax.{Expr, number, item, minus, negation, two, Program, end, assign, require, certain, return, when, when_else}
use Rattle.pv_model.specs.Meaning.{Row}

-- No row has the item.
abbrev pub lacks : List Row → ℕ → Bool
lacks [] n = true
lacks (row ∷ rows) n = if row.item == n then false else lacks rows n

-- One row has the item.
abbrev pub has_once : List Row → ℕ → Bool
has_once [] n = false
has_once (row ∷ rows) n = if row.item == n then lacks rows n else has_once rows n

-- Each item of an expression has one row.
abbrev pub has_items : List Row → Expr → Bool
has_items rows (number z) = true
has_items rows (item n) = has_once rows n
has_items rows (minus e) = has_items rows e
has_items rows (negation e) = has_items rows e
has_items rows (two op left right) = has_items rows left && has_items rows right

-- Each item of a program has one row.
abbrev pub has_all_items : List Row → Program → Bool
has_all_items rows end = true
has_all_items rows (assign n e next) = has_once rows n && has_items rows e && has_all_items rows next
has_all_items rows (require e next) = has_items rows e && has_all_items rows next
has_all_items rows (certain n next) = has_once rows n && has_all_items rows next
has_all_items rows (return e next) = has_items rows e && has_all_items rows next
has_all_items rows (when e body next) = has_items rows e && has_all_items rows body && has_all_items rows next
has_all_items rows (when_else e body other next) =
    has_items rows e && has_all_items rows body && has_all_items rows other && has_all_items rows next
