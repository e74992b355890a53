-- Assignments that say of each transaction what the records say of it.
use Rattle.std.specs.Prelude.{◌≡◌, Bool, List, Some}
use Rattle.pv_base.specs.Assignment.{commits}
use Rattle.pv_base.specs.declared.txn.TxnId.{TxnId}
use Rattle.pv_format.specs.Record.{Record}
use Rattle.pv_protocol.specs.Records.{known}

-- The assignment has each outcome that the records tell.
abbrev pub Heeds : List Record → List TxnId → Type 0
Heeds records assignment = (txn : TxnId) (outcome : Bool) → known records txn ≡ Some outcome → commits assignment txn ≡ outcome
