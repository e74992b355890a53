-- What values are once one more outcome is known.
use Rattle.std.specs.Prelude.{ℕ, Bool, List, [], ◌∷◌, ◌++◌, if◌then◌else◌}
use Rattle.pv_base.specs.Catalog.{Declared}
use Rattle.pv_base.specs.declared.txn.TxnId.{TxnId}
use Rattle.pv_format.specs.Record.{Record, outcome_known}
use Rattle.pv_model.specs.Alternatives.{Read}
use Rattle.pv_protocol.specs.Lock.{is_home}
use Rattle.pv_protocol.specs.Shown.{shown}

-- the item's value with the record of the outcome, if the item is the site's
abbrev pub settled_at : Declared → ℕ → List Record → TxnId → Bool → ℕ → List Read
settled_at catalog site records txn commits item =
    if is_home catalog site item then record { item = item; cases = shown catalog (records ++ outcome_known txn commits ∷ []) item } ∷ [] else []
