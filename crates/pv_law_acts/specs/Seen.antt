-- What the laws of runs look at in a world: not how old grants and entries are, which faults are armed, and which messages are fresh.
use Rattle.std.specs.Prelude.{◌≡◌, ℕ, ◌<◌, ◌≤◌, ◌||◌, false, Option, Some, None, List, map, ◌⊎◌, Contains, IsTrue}
use Rattle.pv_base.specs.declared.grant.GrantId.{GrantId}
use Rattle.pv_base.specs.declared.txn.TxnId.{TxnId}
use Rattle.pv_format.specs.Contents.{greatest_epoch}
use Rattle.pv_format.specs.Message.{Message}
use Rattle.pv_format.specs.Record.{Record}
use Rattle.pv_model.specs.Plan.{participants_of, wants_of}
use Rattle.pv_base.specs.Want.{Want}
use Rattle.pv_protocol.specs.Committed.{home_of, is_committed, grants_of, entry_in}
use Rattle.pv_protocol.specs.Granted.{grants_taken}
use Rattle.pv_protocol.specs.State.{Setup, Grant, Entry, Running, Placed}
use Rattle.pv_protocol.specs.World.{World, site_at}

-- the records of a site
abbrev pub records_at : World → ℕ → List Record
records_at world n = (site_at world n).records

-- what a site has in memory, if it is up
abbrev pub memory_at : World → ℕ → Option Running
memory_at world n = (site_at world n).running

-- a grant, however old it is
abbrev pub ageless_grant : Grant → Grant
ageless_grant grant = record grant { age = 0 }

-- the grants that stand at a site
abbrev pub holdings_in : Option Running → List Grant
holdings_in memory = map ageless_grant (grants_of memory)

-- The grant stands at the site. It is of age 0 here, however old it is.
abbrev pub HoldsAgeless : World → ℕ → Grant → Type 0
HoldsAgeless world n grant = Contains (holdings_in (memory_at world n)) grant

-- an entry, if there is one, however old it is
abbrev pub ageless_entry : Option Entry → Option Entry
ageless_entry None = None
ageless_entry (Some entry) = Some (record entry { age = 0 })

-- the entry of a transaction in a memory, however old it is
abbrev pub work_in : Option Running → TxnId → Option Entry
work_in memory txn = ageless_entry (entry_in memory txn)

-- The site works on the transaction, with this entry. It is of age 0 here, however old it is.
abbrev pub WorksAgeless : World → ℕ → TxnId → Entry → Type 0
WorksAgeless world n txn entry = work_in (memory_at world n) txn ≡ Some entry

-- This was sent.
abbrev pub Sent : World → (from to : ℕ) → Message → Type 0
Sent world from to message = Contains world.sent (record { from = from; to = to; message = message })

-- the participants of an entry's transaction
abbrev pub parts_of : Setup → Entry → List ℕ
parts_of setup entry = participants_of entry.program setup.catalog.items

-- what an entry's transaction wants of a site
abbrev pub wants_at : Setup → Entry → ℕ → List Want
wants_at setup entry n = wants_of entry.program setup.catalog.items n

-- an entry's place in the order
abbrev pub place_in_order : Entry → Placed
place_in_order entry = record { txn = entry.txn; program = entry.program; grants = grants_taken entry }

-- Numbers.

-- A number of an epoch will not be given any more, where this one is next: it was given, or its epoch is over. The next number of a
-- site that is down is the first one of its next epoch.
abbrev pub IsNumberPassed : List Record → (next : Option ℕ) → (epoch number : ℕ) → Type 0
IsNumberPassed records None epoch number = epoch ≤ greatest_epoch records
IsNumberPassed records (Some next) epoch number = (epoch < greatest_epoch records) ⊎ ((epoch ≡ greatest_epoch records) × (number < next))

-- the number that the next transaction gets
abbrev pub next_txn_in : Option Running → Option ℕ
next_txn_in None = None
next_txn_in (Some running) = Some running.next_txn

-- the number that the next grant gets
abbrev pub next_grant_in : Option Running → Option ℕ
next_grant_in None = None
next_grant_in (Some running) = Some running.next_grant

-- The transaction's number will not be given any more.
abbrev pub IsPassed : World → TxnId → Type 0
IsPassed world txn =
    IsNumberPassed (records_at world (home_of txn)) (next_txn_in (memory_at world (home_of txn))) txn.epoch txn.number

-- The grant's number will not be given any more at the site.
abbrev pub IsGrantPassed : World → ℕ → GrantId → Type 0
IsGrantPassed world n id = IsNumberPassed (records_at world n) (next_grant_in (memory_at world n)) id.epoch id.number

-- the number of the site's next transaction
abbrev pub txn_number : World → ℕ → Running → TxnId
txn_number world n running =
    record { site = record { 0 = n }; epoch = greatest_epoch (records_at world n); number = running.next_txn }

-- the number of the site's next grant
abbrev pub grant_number : World → ℕ → Running → GrantId
grant_number world n running = record { epoch = greatest_epoch (records_at world n); number = running.next_grant }

-- The transaction has its number, isn't worked on by its site, and isn't committed. It will never be.
pub record IsDead (world : World) (txn : TxnId) : Type 0 where
  pub passed : IsPassed world txn
  pub idle : work_in (memory_at world (home_of txn)) txn ≡ None
  pub uncommitted : is_committed world txn ≡ false

-- No item is in both with one of the two exclusive.
abbrev pub AreCompatible : List Want → List Want → Type 0
AreCompatible wants others = (want other : Want) → Contains wants want → Contains others other → want.item ≡ other.item
    → IsTrue (want.exclusive || other.exclusive) → ⊥
