-- What a step may append, and what never falls.
use Rattle.std.specs.Prelude.{◌≡◌, ◌≤◌, Bool, false, List, Option, Some, None}
use Rattle.pv_base.specs.declared.txn.TxnId.{TxnId}
use Rattle.pv_format.specs.Record.{Record, prepared, outcome_known}
use Rattle.pv_model.specs.Alternatives.{Read}
use Rattle.pv_protocol.specs.Here.{Here, grant_of, is_full}
use Rattle.pv_protocol.specs.Records.{is_prepared}
use Rattle.pv_protocol.specs.State.{Grant, Running}
use Rattle.pv_protocol.specs.Vote.{are_writes_ignored}

-- The writes are those of a grant that stands and isn't prepared, and no value becomes too wide by them.
pub record IsPromise (here : Here) (txn : TxnId) (writes : List Read) : Type 0 where
  pub grant : Grant
  pub stands : grant_of here.running txn ≡ Some grant
  pub unprepared : is_prepared here.records txn ≡ false
  pub right : are_writes_ignored here grant writes ≡ false

-- What a step appends, if it appends a record: an outcome, or a promise. The journal has room for it.
pub data Appends (here : Here) : Option Record → Type 0 where
  nothing_at_all : Appends here None
  an_outcome : (txn : TxnId) (commits : Bool) → is_full here (outcome_known txn commits) ≡ false → Appends here (Some (outcome_known txn commits))
  a_promise : (txn : TxnId) (writes : List Read) → IsPromise here txn writes → is_full here (prepared txn writes) ≡ false
      → Appends here (Some (prepared txn writes))

-- The epoch stays, and numbers only rise.
pub record Rises (before after : Running) : Type 0 where
  pub epoch : after.epoch ≡ before.epoch
  pub txns : before.next_txn ≤ after.next_txn
  pub grants : before.next_grant ≤ after.next_grant
