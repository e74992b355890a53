-- When a grant may be made.
use Rattle.std.specs.Prelude.{◌≡◌, ℕ, ◌+◌, ◌<◌, ◌≤◌, List, length, None}
use Rattle.std.specs.List.{sum_by}
use Rattle.pv_base.specs.Want.{Want}
use Rattle.pv_base.specs.declared.limits.TheConstants.{NEVER_GIVEN}
use Rattle.pv_base.specs.declared.txn.TxnId.{TxnId}
use Rattle.pv_protocol.specs.Lock.{first_conflict}
use Rattle.pv_protocol.specs.State.{Grant}
use Rattle.pv_locks.specs.LockTable.{LockTable, AreWantsAscending, grant_of}

-- how many wants the grants have together
abbrev pub wants_held : List Grant → ℕ
wants_held grants = sum_by (λ grant. length grant.wants) grants

-- the grant that is made next for these wants
abbrev pub new_grant : LockTable → TxnId → List Want → Grant
new_grant table txn wants = record { txn = txn; id = record { epoch = table.epoch; number = table.next }; wants = wants; age = 0 }

-- The grant was planned on these contents: it is new, it is the next one, nothing that stands is in its way, and there is memory for it.
pub record IsPlanned (table : LockTable) (grant : Grant) : Type 0 where
  pub next : grant ≡ new_grant table grant.txn grant.wants
  pub given : table.next < NEVER_GIVEN
  pub ascending : AreWantsAscending grant.wants
  pub new : grant_of table grant.txn ≡ None
  pub free : first_conflict table.grants grant.wants ≡ None
  pub place : length table.grants < table.room.grants
  pub places : wants_held table.grants + length grant.wants ≤ table.room.wants
