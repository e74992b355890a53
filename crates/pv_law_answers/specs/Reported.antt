-- The claims that reports print the items that can be read, and serial values.
use Rattle.std.specs.Prelude.{◌≡◌, ℕ, ℤ, Some, List, Contains, IsTrue, slice_get}
use Rattle.pv_base.specs.Catalog.{Item}
use Rattle.pv_base.specs.Polyvalue.{Case, value_at}
use Rattle.pv_base.specs.declared.txn.TxnId.{TxnId}
use Rattle.pv_model.specs.Events.{report}
use Rattle.pv_model.specs.Meaning.{value_in}
use Rattle.pv_protocol.specs.Committed.{Fits, is_readable, serial_rows}
use Rattle.pv_protocol.specs.Lines.{Line}
use Rattle.pv_protocol.specs.Places.{Place}
use Rattle.pv_protocol.specs.Shown.{shown}
use Rattle.pv_protocol.specs.State.{Setup}
use Rattle.pv_protocol.specs.World.{site_at}
use Rattle.pv_protocol.specs.WorldStep.{Transition}

-- The cases that a report prints of an item are, at each assignment that fits the world, the value that the serial run leaves it.
abbrev pub ReportsShowSerialValues : Setup → List Transition → Type 0
ReportsShowSerialValues setup transitions =
    (place : Place transitions) → place.transition.event ≡ report
    → (item : ℕ) (value : List (Case ℤ)) → Contains place.transition.lines (Line.item item value)
    → (assignment : List TxnId) → Fits place.transition.world assignment
    → value_at value assignment ≡ Some (value_in (serial_rows setup place.transition.world assignment) item)

-- A report prints each item that can be read, with the cases of its shown value.
abbrev pub ReportsShowEachReadable : Setup → List Transition → Type 0
ReportsShowEachReadable setup transitions =
    (place : Place transitions) → place.transition.event ≡ report
    → (n : ℕ) (item : Item) → slice_get setup.catalog.items n ≡ Some item
    → IsTrue (is_readable (site_at place.transition.world item.site).running n)
    → Contains place.transition.lines (Line.item n (shown setup.catalog (site_at place.transition.world item.site).records n))
