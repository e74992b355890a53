-- How long a coordinator has waited, and for whom.
use Rattle.std.specs.Prelude.{◌≡◌, ℕ, ◌<◌, Some, List}
use Rattle.pv_base.specs.Catalog.{Declared}
use Rattle.pv_base.specs.declared.limits.TheConstants.{TICKS}
use Rattle.pv_base.specs.declared.txn.TxnId.{TxnId}
use Rattle.pv_protocol.specs.Committed.{entry_of}
use Rattle.pv_protocol.specs.Run.{world_after}
use Rattle.pv_protocol.specs.State.{Setup, Entry}
use Rattle.pv_protocol.specs.Waiting.{HasWaited, IsParticipant, HasAnswered}
use Rattle.pv_protocol.specs.World.{World}
use Rattle.pv_protocol.specs.WorldStep.{Transition}

-- Some participant hasn't answered.
pub record IsWaiting (catalog : Declared) (entry : Entry) : Type 0 where
  pub n : ℕ
  pub participant : IsParticipant catalog entry.program n
  pub silent : HasAnswered entry.stage entry n → ⊥

-- An entry is as old as its stage, so many ticks of its site, and not at its last tick; and some participant hasn't answered.
pub record HasAge (setup : Setup) (first : World) (earlier : List Transition) (txn : TxnId) (entry : Entry) : Type 0 where
  pub waited : HasWaited first earlier txn entry.stage entry.age
  pub young : entry.age < TICKS
  pub waiting : IsWaiting setup.catalog entry

-- So is each entry after these transitions.
abbrev pub EntriesHaveAge : Setup → World → List Transition → Type 0
EntriesHaveAge setup first earlier =
    (txn : TxnId) (entry : Entry) → entry_of (world_after first earlier) txn ≡ Some entry → HasAge setup first earlier txn entry
