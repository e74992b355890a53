-- What a site's locks hold, and what each call makes of it.
use Rattle.std.specs.Prelude.{ℕ, ◌<◌, Option, Some, None, List}
use Rattle.std.specs.List.{AllPairs}
use Rattle.pv_base.specs.Assignment.{precedes}
use Rattle.pv_base.specs.Want.{Want}
use Rattle.pv_base.specs.declared.txn.TxnId.{TxnId}
use Rattle.pv_protocol.specs.Keyed.{of_txn, with_one, without}
use Rattle.pv_protocol.specs.State.{Grant}
use Rattle.pv_locks.specs.Put.{place}
use Rattle.pv_protocol.specs.Tick.{older_grants, lasting_grants}

-- for how many grants, and for how many wants of theirs together, there is memory
pub record Room : Type 0 where
  pub grants : ℕ
  pub wants : ℕ

-- The epoch of the site, the number that its next grant gets, and the grants that stand, in the order of their transactions, one of
-- each at most. These are the contents. Beside them there is the memory that was made for grants.
pub record LockTable : Type 0 where
  pub epoch : ℕ
  pub next : ℕ
  pub grants : List Grant
  pub room : Room

-- The wants stand in the order of their items, one of each at most.
abbrev pub AreWantsAscending : List Want → Type 0
AreWantsAscending wants = AllPairs (λ want later. want.item < later.item) wants

-- the grant that the transaction has, if one stands
abbrev pub grant_of : LockTable → TxnId → Option Grant
grant_of table txn = of_txn (λ (grant : Grant). grant.txn) txn table.grants

-- the table with this grant, the only one of its transaction
abbrev pub with_grant : LockTable → Grant → LockTable
with_grant table grant = record table { grants = with_one (λ (other : Grant). other.txn) grant table.grants }

-- the table without a grant of the transaction
abbrev pub without_grant : LockTable → TxnId → LockTable
without_grant table txn = record table { grants = without (λ (grant : Grant). grant.txn) txn table.grants }

-- the grants, among which this one, if there is one, is of age 0 again
abbrev pub with_renewed : List Grant → Option Grant → List Grant
with_renewed grants None = grants
with_renewed grants (Some grant) = with_one (λ (other : Grant). other.txn) (record grant { age = 0 }) grants

-- the table in which the grant of the transaction, if one stands, is of age 0 again
abbrev pub renewed : LockTable → TxnId → LockTable
renewed table txn = record table { grants = with_renewed table.grants (grant_of table txn) }

-- the table a tick later, with the grants that last
abbrev pub older : LockTable → LockTable
older table = record table { grants = lasting_grants (older_grants table.grants) }

-- where the grant of the transaction stands or would stand: behind those of the transactions before it
abbrev pub place_for : TxnId → List Grant → ℕ
place_for txn grants = place (λ (grant : Grant). precedes grant.txn txn) grants
