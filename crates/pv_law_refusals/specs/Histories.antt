-- What came before: why a message was sent, as far as it leads to a refusal.
use Rattle.std.specs.Prelude.{◌≡◌, ℕ, List, ⊤}
use Rattle.pv_base.specs.declared.txn.TxnId.{TxnId}
use Rattle.pv_format.specs.Message.{Message, lock, granted, denied, prepare, vote_yes, vote_no, outcome_reported, ask, NoCause, grant_lost, journal_full}
use Rattle.pv_law_acts.specs.Seen.{Sent}
use Rattle.pv_protocol.specs.Causes.{HadLost, HadNoRoom}
use Rattle.pv_protocol.specs.Conflicts.{WasDenied}
use Rattle.pv_protocol.specs.Run.{world_after}
use Rattle.pv_protocol.specs.State.{Setup}
use Rattle.pv_protocol.specs.World.{World}
use Rattle.pv_protocol.specs.WorldStep.{Transition}

-- Why the site voted no.
abbrev pub NoCameOf : Setup → World → List Transition → ℕ → TxnId → NoCause → Type 0
NoCameOf setup first earlier from txn grant_lost = HadLost first earlier txn from
NoCameOf setup first earlier from txn (journal_full bytes) = HadNoRoom setup first earlier txn from bytes

-- What the message came of: a denial of a conflict, and a no of a lost grant or a journal without room, in one of these transitions.
abbrev pub MessageCameOf : Setup → World → List Transition → ℕ → Message → Type 0
MessageCameOf setup first earlier from (denied txn item holder) = WasDenied first earlier txn from item holder
MessageCameOf setup first earlier from (vote_no txn cause) = NoCameOf setup first earlier from txn cause
MessageCameOf setup first earlier from (lock txn wants) = ⊤
MessageCameOf setup first earlier from (granted txn grant values) = ⊤
MessageCameOf setup first earlier from (prepare txn grant writes) = ⊤
MessageCameOf setup first earlier from (vote_yes txn) = ⊤
MessageCameOf setup first earlier from (outcome_reported txn commits) = ⊤
MessageCameOf setup first earlier from (ask txn) = ⊤

-- Each message that was sent in these transitions came of what it has to.
abbrev pub MessagesCameOf : Setup → World → List Transition → Type 0
MessagesCameOf setup first earlier =
    (from to : ℕ) (message : Message) → Sent (world_after first earlier) from to message → MessageCameOf setup first earlier from message

-- Each denial that was sent names another transaction than the one that asked.
abbrev pub DenialsNameAnother : World → Type 0
DenialsNameAnother world = (from to : ℕ) (txn : TxnId) (item : ℕ) (holder : TxnId) → Sent world from to (denied txn item holder) → holder ≡ txn → ⊥
