-- What sites promise, and in what order.
use Rattle.std.specs.Prelude.{◌≡◌, ℕ, List, IsSome, map, Contains, ⊤}
use Rattle.std.specs.List.{AllPairs}
use Rattle.pv_base.specs.Catalog.{Declared}
use Rattle.pv_base.specs.declared.txn.TxnId.{TxnId}
use Rattle.pv_format.specs.Record.{Record, prepared}
use Rattle.pv_law_agreement.specs.Places.{StandsBefore}
use Rattle.pv_model.specs.Alternatives.{Read}
use Rattle.pv_model.specs.Plan.{wants_of}
use Rattle.pv_protocol.specs.Coordinate.{exclusive_items}
use Rattle.pv_protocol.specs.Shown.{written}
use Rattle.pv_protocol.specs.State.{Placed}

-- The writes are those of a transaction of the order at the site: of the site's items that its program assigns.
pub record ArePromised (catalog : Declared) (order : List Placed) (site : ℕ) (txn : TxnId) (writes : List Read) : Type 0 where
  pub placed : Placed
  pub in_order : Contains order placed
  pub is : placed.txn ≡ txn
  pub items : map (λ write. write.item) writes ≡ exclusive_items (wants_of placed.program catalog.items site)

-- Where two records promise writes of one item, the transaction of the earlier one stands before that of the later one.
abbrev pub Precedes : List Placed → Record → Record → Type 0
Precedes order (prepared txn writes) (prepared later others) = (item : ℕ) → IsSome (written item writes) → IsSome (written item others) → StandsBefore order txn later
Precedes order earlier later = ⊤

-- The records promise the writes of each item in the order of the transactions.
abbrev pub AreInSequence : List Placed → List Record → Type 0
AreInSequence order records = AllPairs (Precedes order) records
