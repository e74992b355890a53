-- What a coordinator knows, and what its calls find there and make of it.
use Rattle.std.specs.Prelude.{◌≡◌, ℕ, ◌+◌, ◌<◌, ◌≤◌, Bool, false, not, ◌&&◌, ◌||◌, ◌==◌, nat_lt, List, map, filter, find, All, IsTrue, Option, Some, None, if◌then◌else◌}
use Rattle.pv_base.specs.Assignment.{is_same_txn}
use Rattle.pv_base.specs.Polyvalue.{Case}
use Rattle.pv_base.specs.declared.grant.GrantId.{GrantId}
use Rattle.pv_base.specs.declared.limits.TheConstants.{NEVER_GIVEN, TICKS}
use Rattle.pv_base.specs.declared.reply.Reply.{Reply}
use Rattle.pv_base.specs.declared.txn.TxnId.{TxnId}
use Rattle.pv_coord.specs.Work.{Work, txn_of, begun, is_grant_ignored, is_denial_ignored, is_vote_ignored, has_all_grants, with_grant, after_grant, with_vote, grant_from}
use Rattle.pv_protocol.specs.Coordinate.{is_locking}
use Rattle.pv_protocol.specs.Keyed.{of_txn, with_one, without, AreInOrder}
use Rattle.pv_protocol.specs.State.{Taken}

-- What a coordinator knows: its site and epoch, the number that its next transaction gets, and what it holds of each transaction that
-- it works on, in their order.
pub record Coordinator : Type 0 where
  pub site : ℕ
  pub epoch : ℕ
  pub next : ℕ
  pub entries : List Work

-- A coordinator's memory: what it knows, and for how many entries more there is a place.
pub record CoordMemory : Type 0 where
  pub contents : Coordinator
  pub places : ℕ

-- What it finds.

-- the number that the next transaction gets
abbrev pub next_txn : Coordinator → TxnId
next_txn coord = record { site = record { 0 = coord.site }; epoch = coord.epoch; number = coord.next }

-- what is held of the transaction, if it is worked on
abbrev pub work_of : Coordinator → TxnId → Option Work
work_of coord txn = of_txn txn_of txn coord.entries

-- what is held of the transaction, if locks are asked for it
abbrev pub locking_work : Coordinator → TxnId → Option Work
locking_work coord txn = find (λ work. is_same_txn txn work.entry.txn && is_locking work.entry.stage) coord.entries

-- what is held of the transaction, if votes are asked for it
abbrev pub voting_work : Coordinator → TxnId → Option Work
voting_work coord txn = find (λ work. is_same_txn txn work.entry.txn && not (is_locking work.entry.stage)) coord.entries

-- The site may have numbered the transaction: its epoch has passed, whatever its number, or it is of now and its number was given.
abbrev pub is_issued : Coordinator → TxnId → Bool
is_issued coord txn =
    coord.site == txn.site.0
    && (nat_lt txn.epoch coord.epoch || (txn.epoch == coord.epoch && nat_lt txn.number coord.next))

-- The denial refuses what is held.
abbrev pub refuses : Option Work → ℕ → ℕ → Bool
refuses None from item = false
refuses (Some work) from item = not (is_denial_ignored work from item)

-- the grant that the site gave for what is held, if it did
abbrev pub grant_of : Option Work → ℕ → Option GrantId
grant_of None site = None
grant_of (Some work) site = grant_from work site

-- the reply of what is held, if there is one
abbrev pub reply_of : Option Work → Option (List (Case Reply))
reply_of None = None
reply_of (Some work) = work.reply

-- What it makes of it.

-- the coordinator with this work, the only one on its transaction
abbrev pub with_work : Coordinator → Work → Coordinator
with_work coord work = record coord { entries = with_one txn_of work coord.entries }

-- the coordinator without work on the transaction
abbrev pub without_work : Coordinator → TxnId → Coordinator
without_work coord txn = record coord { entries = without txn_of txn coord.entries }

-- the coordinator that has given its next number to the transaction of this work
abbrev pub beginning : Coordinator → Work → Coordinator
beginning coord work = with_work (record coord { next = coord.next + 1 }) work

-- what a site granted to a transaction
pub record Grants : Type 0 where
  pub txn : TxnId
  pub taken : Taken

-- the works once the grant for this one is taken, at its lock point where there is a reply
abbrev pub with_taken_for : List Work → Taken → Option (List (Case Reply)) → Option Work → List Work
with_taken_for works taken reply None = works
with_taken_for works taken reply (Some work) = with_one txn_of (after_grant work taken reply) works

-- the coordinator once the grant is taken
abbrev pub taking : Coordinator → Grants → Option (List (Case Reply)) → Coordinator
taking coord grants reply = record coord { entries = with_taken_for coord.entries grants.taken reply (locking_work coord grants.txn) }

-- the works once the yes for this one is counted, unless no notice is taken of it
abbrev pub with_vote_for : List Work → ℕ → Option Work → List Work
with_vote_for works from None = works
with_vote_for works from (Some work) = if is_vote_ignored work from then works else with_one txn_of (with_vote work from) works

-- the coordinator once the yes of the site is counted
abbrev pub counting : Coordinator → TxnId → ℕ → Coordinator
counting coord txn from = record coord { entries = with_vote_for coord.entries from (voting_work coord txn) }

-- the works, a tick older
abbrev pub older : List Work → List Work
older works = map (λ (work : Work). record work { entry = record work.entry { age = work.entry.age + 1 } }) works

-- the works that haven't come to their last tick
abbrev pub lasting : List Work → List Work
lasting works = filter (λ work. nat_lt work.entry.age TICKS) works

-- the works that have come to their last tick
abbrev pub expired : List Work → List Work
expired works = filter (λ work. not (nat_lt work.entry.age TICKS)) works

-- What changes may be applied.

-- The work may begin: it is that of the next transaction, there is a number for it, and a place.
pub record CanBegin (coord : CoordMemory) (work : Work) : Type 0 where
  pub begins : work ≡ begun (next_txn coord.contents) work.entry.program work.parts
  pub number : coord.contents.next < NEVER_GIVEN
  pub place : 0 < coord.places

-- Notice is taken of the grant for what is held: it is awaited, and is of the items that were asked for.
abbrev pub fits : Option Work → Taken → Bool
fits None taken = false
fits (Some work) taken = not (is_grant_ignored work taken)

-- With the grant, all are granted for what is held.
abbrev pub completes : Option Work → Taken → Bool
completes None taken = false
completes (Some work) taken = has_all_grants (with_grant work taken)

-- The grant may be taken: locks are asked for its transaction, and notice is taken of it.
abbrev pub CanTake : Coordinator → Grants → Type 0
CanTake coord grants = IsTrue (fits (locking_work coord grants.txn) grants.taken)

-- The grant is the last that its transaction waits for.
abbrev pub is_last : Coordinator → Grants → Bool
is_last coord grants = completes (locking_work coord grants.txn) grants.taken

-- What is true of every coordinator.

-- The transaction is of this home and time, and its number is below the bound.
pub record IsNumbered (home time bound : ℕ) (txn : TxnId) : Type 0 where
  pub site : txn.site.0 ≡ home
  pub epoch : txn.epoch ≡ time
  pub number : txn.number < bound

-- The works are in order, each of a number that was given and not yet at its last tick.
pub record IsInOrder (coord : Coordinator) : Type 0 where
  pub ascending : AreInOrder txn_of coord.entries
  pub numbered : All (λ (work : Work). IsNumbered coord.site coord.epoch coord.next work.entry.txn) coord.entries
  pub young : All (λ (work : Work). work.entry.age < TICKS) coord.entries
  pub next : coord.next ≤ NEVER_GIVEN
