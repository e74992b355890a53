-- The index of the grants by item: who holds which item, and how.
use Rattle.std.specs.Prelude.{◌≡◌, ℕ, ◌<◌, Bool, false, ◌&&◌, ◌||◌, ◌==◌, nat_lt, List, [], ◌∷◌, find, Option, Some, None, All}
use Rattle.std.specs.List.{AllPairs}
use Rattle.std.specs.Ordering.{nat_cmp, ordering_then, is_lt}
use Rattle.pv_base.specs.Assignment.{txn_cmp}
use Rattle.pv_base.specs.Want.{Want}
use Rattle.pv_base.specs.declared.catalog.ItemId.{ItemId}
use Rattle.pv_base.specs.declared.limits.TheConstants.{TICKS}
use Rattle.pv_base.specs.declared.txn.TxnId.{TxnId}
use Rattle.pv_protocol.specs.Keyed.{AreInOrder}
use Rattle.pv_protocol.specs.Lock.{Conflict}
use Rattle.pv_protocol.specs.State.{Grant}
use Rattle.pv_locks.specs.LockTable.{AreWantsAscending}
use Rattle.pv_locks.specs.Put.{place, put}
use Rattle.pv_locks.specs.declared.holders.Holder.{Holder}

-- Holders are ordered by item, then by transaction.
abbrev pub comes_before : Holder → Holder → Bool
comes_before holder other = is_lt (ordering_then (nat_cmp holder.item.0 other.item.0) (txn_cmp holder.txn other.txn))

-- No holder comes before one that it stands behind.
abbrev pub AreInPlace : List Holder → Type 0
AreInPlace holders = AllPairs (λ holder later. comes_before later holder ≡ false) holders

-- where the holder stands or would stand: behind those that come before it
abbrev pub place_of_holder : Holder → List Holder → ℕ
place_of_holder holder holders = place (λ other. comes_before other holder) holders

-- the holders with one more, where it belongs
abbrev pub with_holder : Holder → List Holder → List Holder
with_holder holder holders = put (λ other. comes_before other holder) holder holders

-- the transaction as the holder of what it wants
abbrev pub holder_by : TxnId → Want → Holder
holder_by txn want = record { item = record { 0 = want.item }; txn = txn; exclusive = want.exclusive }

-- the holders, with a transaction as the holder of what it wants
abbrev pub with_holders : TxnId → List Want → List Holder → List Holder
with_holders txn [] holders = holders
with_holders txn (want ∷ wants) holders = with_holder (holder_by txn want) (with_holders txn wants holders)

-- the holders of all that is granted
abbrev pub holders_of : List Grant → List Holder
holders_of [] = []
holders_of (grant ∷ grants) = with_holders grant.txn grant.wants (holders_of grants)

-- The holder holds the item so that this can't be granted beside it.
abbrev pub is_holder_in_the_way : Want → Holder → Bool
is_holder_in_the_way want holder = want.item == holder.item.0 && (want.exclusive || holder.exclusive)

-- the conflict over the want with this holder, or else one of the rest
abbrev pub held_or : Want → Option Holder → Option Conflict → Option Conflict
held_or want None rest = rest
held_or want (Some holder) rest = Some (record { item = want.item; holder = holder.txn })

-- The first want that can't be granted beside these holders, and the first that is in its way.
abbrev pub first_held : List Holder → List Want → Option Conflict
first_held holders [] = None
first_held holders (want ∷ wants) = held_or want (find (is_holder_in_the_way want) holders) (first_held holders wants)

-- an item and a transaction that holds it, as a conflict
abbrev pub conflict_over : ItemId × TxnId → Conflict
conflict_over pair = record { item = pair.0.0; holder = pair.1 }

-- There is a grant, and it hasn't come to its last tick.
abbrev pub lasts : Option Grant → Bool
lasts None = false
lasts (Some grant) = nat_lt grant.age TICKS

-- The grants stand in order, each with its wants in order and none at its last tick, and these are exactly their holders.
pub record IsIndex (grants : List Grant) (holders : List Holder) : Type 0 where
  pub order : AreInOrder (λ (grant : Grant). grant.txn) grants
  pub wants : All (λ (grant : Grant). AreWantsAscending grant.wants) grants
  pub young : All (λ (grant : Grant). grant.age < TICKS) grants
  pub index : holders ≡ holders_of grants
