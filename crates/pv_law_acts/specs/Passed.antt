-- Numbers are given once: every number that is in use is passed.
use Rattle.std.specs.Prelude.{◌≡◌, ℕ, List, Contains, ⊤}
use Rattle.pv_base.specs.declared.grant.GrantId.{GrantId}
use Rattle.pv_base.specs.declared.txn.TxnId.{TxnId}
use Rattle.pv_format.specs.Message.{Message, lock, granted, denied, prepare, vote_yes, vote_no, outcome_reported, ask}
use Rattle.pv_format.specs.Record.{Record, epoch_begun, prepared, outcome_known}
use Rattle.pv_law_acts.specs.Acts.{remembered, with_begun, with_granted}
use Rattle.pv_law_acts.specs.Guards.{MayBegin, MayGrant}
use Rattle.pv_law_acts.specs.Seen.{records_at, HoldsAgeless, WorksAgeless, Sent, IsPassed, IsGrantPassed, txn_number, grant_number}
use Rattle.pv_model.specs.Syntax.{Program}
use Rattle.pv_protocol.specs.Committed.{home_of}
use Rattle.pv_protocol.specs.State.{Setup, Grant, Taken, Entry, TakenGrant, Placed, Running}
use Rattle.pv_protocol.specs.World.{World}
use Rattle.pv_base.specs.Want.{Want}

-- An entry stands at its transaction's site, and its numbers are passed.
pub record IsEntryPassed (world : World) (n : ℕ) (txn : TxnId) (entry : Entry) : Type 0 where
  pub home : home_of txn ≡ n
  pub own : entry.txn ≡ txn
  pub passed : IsPassed world txn
  pub taken : (taken : Taken) → Contains entry.taken taken → IsGrantPassed world taken.site taken.grant

-- The numbers of a message are passed. A question may be of any transaction.
abbrev pub IsMessagePassed : World → (from to : ℕ) → Message → Type 0
IsMessagePassed world from to (lock txn wants) = IsPassed world txn
IsMessagePassed world from to (granted txn id values) = IsPassed world txn × IsGrantPassed world from id
IsMessagePassed world from to (denied txn item holder) = IsPassed world txn
IsMessagePassed world from to (prepare txn id writes) = IsPassed world txn × IsGrantPassed world to id
IsMessagePassed world from to (vote_yes txn) = IsPassed world txn
IsMessagePassed world from to (vote_no txn cause) = IsPassed world txn
IsMessagePassed world from to (outcome_reported txn commits) = IsPassed world txn
IsMessagePassed world from to (ask txn) = ⊤

-- The number of a record's transaction is passed.
abbrev pub IsRecordPassed : World → Record → Type 0
IsRecordPassed world (epoch_begun epoch) = ⊤
IsRecordPassed world (prepared txn writes) = IsPassed world txn
IsRecordPassed world (outcome_known txn commits) = IsPassed world txn

-- The numbers of a place of the order are passed.
pub record IsPlacePassed (world : World) (placed : Placed) : Type 0 where
  pub passed : IsPassed world placed.txn
  pub taken : (taken : TakenGrant) → Contains placed.grants taken → IsGrantPassed world taken.site taken.grant

-- Every number in the world is passed.
pub record AreNumbersPassed (world : World) : Type 0 where
  pub entries : (n : ℕ) (txn : TxnId) (entry : Entry) → WorksAgeless world n txn entry → IsEntryPassed world n txn entry
  pub grants : (n : ℕ) (grant : Grant) → HoldsAgeless world n grant → IsPassed world grant.txn × IsGrantPassed world n grant.id
  pub records : (n : ℕ) (kept : Record) → Contains (records_at world n) kept → IsRecordPassed world kept
  pub sent : (from to : ℕ) (message : Message) → Sent world from to message → IsMessagePassed world from to message
  pub order : (placed : Placed) → Contains world.order placed → IsPlacePassed world placed

-- In this act a site gives this number to a transaction.
pub data GivesTxn (setup : Setup) (world : World) : World → TxnId → Type 0 where
  gives_txn : (n : ℕ) (running : Running) (program : Program) → MayBegin setup world n running program
      → GivesTxn setup world (remembered world n (with_begun running (txn_number world n running) program)) (txn_number world n running)

-- In this act the site gives this number to a grant.
pub data GivesGrant (world : World) (n : ℕ) : World → GrantId → Type 0 where
  gives_grant : (running : Running) (txn : TxnId) (wants : List Want) → MayGrant world n running txn wants
      → GivesGrant world n (remembered world n (with_granted running txn (grant_number world n running) wants)) (grant_number world n running)
