-- How many outcomes shown values name.
use Rattle.std.specs.Prelude.{◌≡◌, ℕ, ◌≤◌, List, [], ◌∷◌, ◌++◌, length, IsTrue}
use Rattle.pv_base.specs.Catalog.{Declared}
use Rattle.pv_base.specs.declared.txn.TxnId.{TxnId}
use Rattle.pv_base.specs.Named.{names_of}
use Rattle.pv_format.specs.Record.{Record, prepared}
use Rattle.pv_model.specs.Alternatives.{Read}
use Rattle.pv_protocol.specs.Lock.{is_home}
use Rattle.pv_protocol.specs.Shown.{shown_within}

-- After each prepared record the value of every item of the site names so many outcomes at most, with all outcomes known that any
-- record says.
pub record IsNarrow (limit : ℕ) (catalog : Declared) (site : ℕ) (records : List Record) : Type 0 where
  pub few : (before after : List Record) (txn : TxnId) (writes : List Read) (item : ℕ) → IsTrue (is_home catalog site item)
      → records ≡ before ++ prepared txn writes ∷ after
      → length (names_of (shown_within catalog records (before ++ prepared txn writes ∷ []) item)) ≤ limit
