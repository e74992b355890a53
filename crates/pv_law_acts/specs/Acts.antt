-- Acts: the least changes of a world. What a site makes of an input, wherever it stops, is some acts one after another.
use Rattle.std.specs.Prelude.{◌≡◌, ℕ, ◌+◌, Bool, true, Option, Some, None, List, [], ◌∷◌, ◌++◌, length, Contains}
use Rattle.pv_base.specs.Want.{Want}
use Rattle.pv_base.specs.declared.grant.GrantId.{GrantId}
use Rattle.pv_base.specs.declared.txn.TxnId.{TxnId}
use Rattle.pv_format.specs.Contents.{greatest_epoch}
use Rattle.pv_format.specs.Message.{Envelope}
use Rattle.pv_format.specs.Record.{Record, epoch_begun, prepared, outcome_known}
use Rattle.pv_law_acts.specs.Guards.{IsAtWork, MayBegin, MayGrant, MayTake, MayPlace, MayCount, MayPromise, MayCommit, MayLearn, MayStart, MaySend}
use Rattle.pv_law_acts.specs.Seen.{records_at, memory_at, holdings_in, work_in, place_in_order, next_txn_in, next_grant_in, txn_number, grant_number}
use Rattle.pv_model.specs.Alternatives.{Read}
use Rattle.pv_model.specs.Syntax.{Program}
use Rattle.pv_protocol.specs.Granted.{taking}
use Rattle.pv_protocol.specs.Here.{with_grant, with_entry, without_entry}
use Rattle.pv_protocol.specs.Start.{just_started}
use Rattle.pv_protocol.specs.State.{Setup, Grant, locking, voting, Taken, Entry, Running}
use Rattle.pv_protocol.specs.World.{World, site_at, with_site}

-- the world where a site has these records and this in memory
abbrev pub with_content : World → ℕ → List Record → Option Running → World
with_content world n records memory = with_site world n (record (site_at world n) { records = records; running = memory })

-- the world where a site has this in memory
abbrev pub remembered : World → ℕ → Running → World
remembered world n running = with_content world n (records_at world n) (Some running)

-- the world where a site has one more record, and this in memory
abbrev pub recorded : World → ℕ → Record → Option Running → World
recorded world n more memory = with_content world n (records_at world n ++ more ∷ []) memory

-- a transaction's first entry
abbrev pub first_entry : TxnId → Program → Entry
first_entry txn program = record { txn = txn; program = program; stage = locking; age = 0; taken = []; votes = [] }

-- the memory where a transaction has begun
abbrev pub with_begun : Running → TxnId → Program → Running
with_begun running txn program = with_entry (record running { next_txn = running.next_txn + 1 }) (first_entry txn program)

-- the memory where a lock is granted
abbrev pub with_granted : Running → TxnId → GrantId → List Want → Running
with_granted running txn id wants =
    with_grant (record running { next_grant = running.next_grant + 1 }) (record { txn = txn; id = id; wants = wants; age = 0 })

-- the entry of a transaction at its lock point
abbrev pub voting_of : Entry → Entry
voting_of entry = record entry { stage = voting; age = 0 }

-- the entry with one more vote
abbrev pub counting : Entry → ℕ → Entry
counting entry from = record entry { votes = entry.votes ++ from ∷ [] }

-- The other memory has the same next numbers, and no grant and no entry that the first hasn't, but for how old these are.
pub record HasNoMore (memory other : Option Running) : Type 0 where
  pub txns : next_txn_in memory ≡ next_txn_in other
  pub ids : next_grant_in memory ≡ next_grant_in other
  pub entries : (txn : TxnId) (entry : Entry) → work_in other txn ≡ Some entry → work_in memory txn ≡ Some entry
  pub grants : (grant : Grant) → Contains (holdings_in other) grant → Contains (holdings_in memory) grant

-- Nothing is new in the other world: it may differ in how old grants and entries are, which faults are armed and which messages are
-- fresh, and in grants and entries that have ended.
pub record HasNothingNew (world other : World) : Type 0 where
  pub count : length world.sites ≡ length other.sites
  pub records : (n : ℕ) → records_at world n ≡ records_at other n
  pub memories : (n : ℕ) → HasNoMore (memory_at world n) (memory_at other n)
  pub sent : world.sent ≡ other.sent
  pub order : world.order ≡ other.order

-- One act, from a world to another. Each changes one thing, but that a commit ends the transaction's entry.
pub data Act (setup : Setup) (world : World) : World → Type 0 where
  -- a transaction begins
  begins : (n : ℕ) (running : Running) (program : Program) → MayBegin setup world n running program
      → Act setup world (remembered world n (with_begun running (txn_number world n running) program))
  -- locks are granted
  grants : (n : ℕ) (running : Running) (txn : TxnId) (wants : List Want) → MayGrant world n running txn wants
      → Act setup world (remembered world n (with_granted running txn (grant_number world n running) wants))
  -- a coordinator takes a grant
  takes : (n : ℕ) (running : Running) (txn : TxnId) (entry : Entry) (taken : Taken) → IsAtWork world n txn running entry
      → MayTake setup world n txn entry taken
      → Act setup world (remembered world n (with_entry running (taking entry taken.site taken.grant taken.values)))
  -- a transaction is at its lock point
  places : (n : ℕ) (running : Running) (txn : TxnId) (entry : Entry) → IsAtWork world n txn running entry → MayPlace setup entry
      → Act setup world (record (remembered world n (with_entry running (voting_of entry))) { order = world.order ++ place_in_order entry ∷ [] })
  -- a coordinator counts a vote
  counts : (n : ℕ) (running : Running) (txn : TxnId) (entry : Entry) (from : ℕ) → IsAtWork world n txn running entry
      → MayCount setup world n txn entry from → Act setup world (remembered world n (with_entry running (counting entry from)))
  -- a participant promises
  promises : (n : ℕ) (running : Running) (txn : TxnId) (id : GrantId) (wants : List Want) (writes : List Read) → memory_at world n ≡ Some running
      → MayPromise world n txn id wants writes → Act setup world (recorded world n (prepared txn writes) (Some running))
  -- a transaction commits
  commits : (n : ℕ) (running : Running) (txn : TxnId) (entry : Entry) → IsAtWork world n txn running entry → MayCommit setup entry
      → Act setup world (recorded world n (outcome_known txn true) (Some (without_entry running txn)))
  -- a site learns an outcome
  learns : (n : ℕ) (running : Running) (txn : TxnId) (outcome : Bool) → memory_at world n ≡ Some running → MayLearn world n txn outcome
      → Act setup world (recorded world n (outcome_known txn outcome) (Some running))
  -- a site starts
  starts : (n : ℕ) → MayStart world n
      → Act setup world (recorded world n (epoch_begun (greatest_epoch (records_at world n) + 1)) (Some (just_started (greatest_epoch (records_at world n) + 1))))
  -- a site goes down
  goes_down : (n : ℕ) → Act setup world (with_content world n (records_at world n) None)
  -- a message is sent
  sends : (envelope : Envelope) → MaySend setup world envelope.from envelope.to envelope.message
      → Act setup world (record world { sent = world.sent ++ envelope ∷ [] })
  -- grants and entries age or end, and what the laws don't look at changes
  forgets : (other : World) → HasNothingNew world other → Act setup world other

-- Acts one after another, from a world to another.
pub data Acts (setup : Setup) : World → World → Type 0 where
  no_act : (world : World) → Acts setup world world
  one_more : (world next after : World) → Acts setup world next → Act setup next after → Acts setup world after
