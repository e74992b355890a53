-- What a text says with a line behind it.
use Rattle.std.proofs.Common.{◌≡◌, ◌+◌, ℕ, List, length, length-append, [], ◌∷◌, All, arith}
use Rattle.pv_base.specs.Catalog.{Declared}
use Rattle.pv_model.specs.Events.{Event, Schedule}
use Rattle.pv_protocol.specs.WellFormed.{IsWellFormed}
use Rattle.pv_script.specs.Behind.{with_line}

-- how long both are together
pub length_with_line : (text line : List ℕ) → length (with_line text line) ≡ length text + length line + 1
length_with_line text line = omega (arith, length-append text (10 ∷ line))

-- The one event of a schedule is well-formed.
pub is-well : (catalog : Declared) (event : Event) → All (IsWellFormed catalog) (event ∷ []) → IsWellFormed catalog event
is-well catalog event well = well 0 event (omega arith)
