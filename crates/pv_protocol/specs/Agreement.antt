-- The claim that what sites show agrees with the serial run.
use Rattle.std.specs.Prelude.{◌≡◌, ℕ, List, Some, slice_get, All, IsTrue}
use Rattle.pv_base.specs.Catalog.{Item}
use Rattle.pv_base.specs.declared.txn.TxnId.{TxnId}
use Rattle.pv_model.specs.Events.{report}
use Rattle.pv_model.specs.Meaning.{value_in}
use Rattle.pv_protocol.specs.Committed.{Fits, is_readable, serial_rows}
use Rattle.pv_protocol.specs.Places.{Place}
use Rattle.pv_protocol.specs.Shown.{item_value}
use Rattle.pv_protocol.specs.State.{Setup}
use Rattle.pv_protocol.specs.World.{World, site_at}
use Rattle.pv_protocol.specs.WorldStep.{Transition}

-- A world agrees where, for each assignment that fits, each readable item has by its site's records the value that the
-- serial run leaves it.
abbrev pub Agrees : Setup → World → Type 0
Agrees setup world =
    (assignment : List TxnId) → Fits world assignment → (n : ℕ) (item : Item) → slice_get setup.catalog.items n ≡ Some item
    → IsTrue (is_readable (site_at world item.site).running n)
    → item_value setup.catalog (site_at world item.site).records n assignment ≡ value_in (serial_rows setup world assignment) n

-- Every world of a run agrees.
abbrev pub WorldsAgree : Setup → List World → Type 0
WorldsAgree setup worlds = All (Agrees setup) worlds

-- Each report of a run comes in a world that agrees.
abbrev pub ReportsAgree : Setup → List Transition → Type 0
ReportsAgree setup transitions = (place : Place transitions) → place.transition.event ≡ report → Agrees setup place.transition.world
