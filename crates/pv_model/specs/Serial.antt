-- The serial run: a database of one thread that runs the transactions of an order one after another
-- (Eswaran, Gray, Lorie, Traiger, 1976).
use Rattle.std.specs.Prelude.{ℕ, ◌+◌, List, [], ◌∷◌, map, Option, Some, None, if◌then◌else◌}
use Rattle.pv_base.specs.declared.txn.TxnId.{TxnId}
use Rattle.pv_base.specs.Assignment.{is_same_txn, commits}
use Rattle.pv_base.specs.Catalog.{Item, Declared}
use Rattle.pv_base.specs.declared.reply.Reply.{Reply}
use Rattle.pv_model.specs.Meaning.{Row, exec}
use Rattle.pv_model.specs.Syntax.{Program}

-- a row for each item, numbered from here on, with its declared value
abbrev pub rows_from : ℕ → List Item → List Row
rows_from n [] = []
rows_from n (declared ∷ items) = record { item = n; value = declared.value } ∷ rows_from (n + 1) items

-- the rows of all items, with their declared values
abbrev pub declared_rows : Declared → List Row
declared_rows catalog = rows_from 0 catalog.items

-- a transaction of an order, with its program
pub record Ordered : Type 0 where
  pub txn : TxnId
  pub program : Program

-- the rows after one transaction of the order
abbrev pub rows_after : List TxnId → List Row → Ordered → List Row
rows_after assignment rows entry = if commits assignment entry.txn then (exec entry.program rows).rows else rows

-- Beginning with these rows, each transaction of the order that commits runs in turn on what those before it left.
abbrev pub serial : List Row → List Ordered → List TxnId → List Row
serial rows [] assignment = rows
serial rows (entry ∷ order) assignment = serial (rows_after assignment rows entry) order assignment

-- what a transaction that commits replies in that run
abbrev pub serial_reply : List Row → List Ordered → List TxnId → TxnId → Option Reply
serial_reply rows [] assignment txn = None
serial_reply rows (entry ∷ order) assignment txn =
    if is_same_txn entry.txn txn
    then (if commits assignment txn then Some (exec entry.program rows).reply else None)
    else serial_reply (rows_after assignment rows entry) order assignment txn

-- the transactions of an order
abbrev pub txns : List Ordered → List TxnId
txns order = map (λ entry. entry.txn) order
