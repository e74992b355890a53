-- A decider as contracts see it, and what it stands for.
use Rattle.std.specs.Prelude.{◌≡◌, ◌≢◌, ℕ, ◌<◌, Bool, false, List, Some, All, map, ⊤}
use Rattle.pv_base.specs.declared.limits.TheConstants.{MAX_SITES}
use Rattle.pv_base.specs.declared.txn.TxnId.{TxnId}
use Rattle.pv_disk_model.specs.LogModel.{LogModel}
use Rattle.pv_disk_model.specs.Size.{Contents}
use Rattle.pv_law_quorum.specs.Decider.{Here, Setup}
use Rattle.pv_quorum.specs.Knows.{Knows}
use Rattle.pv_quorum.specs.MemoryView.{known_at}
use Rattle.pv_quorum.specs.Spelling.{IsInRange, record_bytes, length_of}
use Rattle.pv_quorum.specs.Values.{txn_of}
use Rattle.pv_quorum.specs.declared.known.Known.{Known}
use Rattle.pv_quorum.specs.declared.message.QuorumInput.{QuorumInput}
use Rattle.pv_quorum.specs.declared.message.QuorumInput.TheVariants.{Propose, Take}

-- A decider over a log: its number, how many there are, what it knows of each transaction, whether it is down, and the log.
pub record DeciderState (W : Type 0) : Type 0 where
  pub me : ℕ
  pub count : ℕ
  pub known : List (TxnId × Known)
  pub is_down : Bool
  pub log : W

-- What is fixed for all deciders: how many there are, and how long a log of records is and may be.
abbrev pub setup_of : ℕ → ℕ → Setup
setup_of count limit = record { deciders = count; length = length_of; limit = limit }

-- A message comes from another decider.
abbrev pub ComesFromAnother : ℕ → ℕ → QuorumInput → Type 0
ComesFromAnother me count (Propose txn commits) = ⊤
ComesFromAnother me count (Take from message) = (from < count) × (from ≢ me)

-- What a step takes: the transaction's site is one that there may be, and a message comes from another decider.
pub record IsInput (me count : ℕ) (input : QuorumInput) : Type 0 where
  pub site : (txn_of input).site.0 < MAX_SITES
  pub from : ComesFromAnother me count input

module _ {W : Type 0} (M : LogModel W) where
  -- The log is as the decider left it, unless the decider is down.
  pub record IsReady (decider : DeciderState W) : Type 0 where
    pub intact : M.is_intact decider.log
    pub up : decider.is_down ≡ false → M.is_down decider.log ≡ false

  -- The decider is up and stands for this one of the rules: it knows of each transaction what that has in its records and in memory, and the
  -- log holds the records, where it is known what it holds.
  pub record StandsFor (decider : DeciderState W) (here : Here) : Type 0 where
    pub up : decider.is_down ≡ false
    pub me : here.me ≡ decider.me
    pub range : All IsInRange here.records
    pub knows : (txn : TxnId) → Knows here txn (known_at decider.known txn)
    pub size : M.size decider.log ≡ length_of here.records
    pub held : (contents : Contents) → M.contents decider.log ≡ Some contents → contents ≡ map record_bytes here.records
