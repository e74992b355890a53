-- What opening a decider does, by its answer.
use Rattle.std.specs.Prelude.{◌≡◌, ℕ, false, List, [], Some, None, Result, Ok, Err, is_some, map, ⊤}
use Rattle.std.specs.Global.{Vec}
use Rattle.pv_base.specs.declared.txn.TxnId.{TxnId}
use Rattle.pv_disk_model.specs.Log.{Keeps, StaysUp, GoesDown}
use Rattle.pv_disk_model.specs.LogModel.{LogModel}
use Rattle.pv_disk_model.specs.Size.{Contents, size_of}
use Rattle.pv_law_quorum.specs.Record.{Record}
use Rattle.pv_quorum.specs.DeciderState.{DeciderState, StandsFor}
use Rattle.pv_quorum.specs.Knows.{IsRecorded}
use Rattle.pv_quorum.specs.MemoryView.{Remembered, known_at}
use Rattle.pv_quorum.specs.Spelling.{SpellRecords, IsFirstBadContent}
use Rattle.pv_quorum.specs.declared.error.OpenDecider.{OpenDecider}
use Rattle.pv_quorum.specs.declared.error.OpenDecider.TheVariants.{Failed, BadRecord, NotOurs, NoMemory}
use Rattle.pv_quorum.specs.declared.known.Known.{Known}
use Rattle.pv_quorum.specs.declared.opening.Refusal.{Refusal}
use Rattle.pv_quorum.specs.declared.opening.Refusal.TheVariants as refusal

-- What the contents are, as bytes.
abbrev pub contents_of : List (Vec ℕ) → Contents
contents_of contents = map (λ (content : Vec ℕ). content.items) contents

-- By these records this is known of each transaction, and nothing is proposed.
pub record Remembers (entries : List Record) (known : List (TxnId × Known)) : Type 0 where
  pub recorded : (txn : TxnId) → IsRecorded txn entries (known_at known txn)
  pub idle : (txn : TxnId) → (known_at known txn).proposal ≡ None

-- What is known by these contents, or why nothing is.
abbrev pub Reads : Contents → Result Remembered Refusal → Type 0
Reads contents (Ok memory) = (entries : List Record) × SpellRecords entries contents × Remembers entries memory.known
Reads contents (Err (refusal.BadRecord index)) = IsFirstBadContent contents index
Reads contents (Err refusal.NoMemory) = ⊤
Reads contents (Err _) = ⊥

module _ {W : Type 0} (M : LogModel W) where
  -- These contents were read: they are what the log holds, where that is known, and as long as the log says.
  pub record WereRead (log : W) (contents : Contents) : Type 0 where
    pub size : M.size log ≡ size_of contents
    pub held : (held : Contents) → M.contents log ≡ Some held → contents ≡ held

  -- What the contents of the log say, or why they aren't a decider's.
  abbrev pub Loads : W → W → Result Remembered Refusal → Type 0
  Loads old new (Ok memory) = StaysUp M old new × Keeps M old new × ((contents : Contents) × WereRead old contents × Reads contents (Ok memory))
  Loads old new (Err refusal.Failed) = GoesDown M old new × Keeps M old new
  Loads old new (Err (refusal.BadRecord index)) =
      StaysUp M old new × Keeps M old new × ((contents : Contents) × WereRead old contents × IsFirstBadContent contents index)
  Loads old new (Err (refusal.NotOurs place)) = StaysUp M old new × Keeps M old new × (is_some (M.contents old) ≡ false)
  Loads old new (Err refusal.NoMemory) = StaysUp M old new × Keeps M old new

  -- The decider was opened: it stands for the one of the rules that has these records and nothing in memory.
  pub record HasOpened (old : W) (me count : ℕ) (decider : DeciderState W) : Type 0 where
    pub contents : Contents
    pub entries : List Record
    pub read : WereRead old contents
    pub spelled : SpellRecords entries contents
    pub me_is : decider.me ≡ me
    pub count_is : decider.count ≡ count
    pub stands : StandsFor M decider (record { me = me; records = entries; entries = [] })
    pub up : StaysUp M old decider.log
    pub log : Keeps M old decider.log

  -- An opening, by its answer.
  abbrev pub Opens : W → ℕ → ℕ → Result (DeciderState W) (OpenDecider W) → Type 0
  Opens old me count (Ok decider) = HasOpened old me count decider
  Opens old me count (Err (Failed log)) = GoesDown M old log × Keeps M old log
  Opens old me count (Err (BadRecord log index)) =
      StaysUp M old log × Keeps M old log × ((contents : Contents) × WereRead old contents × IsFirstBadContent contents index)
  Opens old me count (Err (NotOurs log place)) = StaysUp M old log × Keeps M old log × (is_some (M.contents old) ≡ false)
  Opens old me count (Err (NoMemory log)) = StaysUp M old log × Keeps M old log

-- the refusal, with which the log comes back
abbrev pub refused_with : {W : Type 0} → W → Refusal → OpenDecider W
refused_with log refusal.Failed = Failed log
refused_with log (refusal.BadRecord index) = BadRecord log index
refused_with log (refusal.NotOurs place) = NotOurs log place
refused_with log refusal.NoMemory = NoMemory log

-- the log that comes back
abbrev pub log_in : {W : Type 0} → OpenDecider W → W
log_in (Failed log) = log
log_in (BadRecord log index) = log
log_in (NotOurs log place) = log
log_in (NoMemory log) = log
