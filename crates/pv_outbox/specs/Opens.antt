-- What opening an outbox does, by its answer.
use Rattle.std.specs.Prelude.{◌≡◌, false, List, Some, Result, Ok, Err, is_some, ⊤}
use Rattle.pv_disk_model.specs.Calls.{read_all}
use Rattle.pv_disk_model.specs.Log.{Keeps, StaysUp, GoesDown}
use Rattle.pv_disk_model.specs.LogModel.{LogModel}
use Rattle.pv_disk_model.specs.Size.{Contents, size_of}
use Rattle.pv_law_outbox.specs.State.{Record, state_of}
use Rattle.pv_outbox.specs.MemoryView.{Facts}
use Rattle.pv_outbox.specs.OutboxState.{OutboxState, StandsFor}
use Rattle.pv_outbox.specs.Spelling.{SpellRecords, IsFirstBadContent}
use Rattle.pv_outbox.specs.declared.error.OpenOutbox.{OpenOutbox}
use Rattle.pv_outbox.specs.declared.error.OpenOutbox.TheVariants.{Failed, BadRecord, NotOurs, NoMemory}
use Rattle.pv_outbox.specs.declared.opening.Refusal.{Refusal}
use Rattle.pv_outbox.specs.declared.opening.Refusal.TheVariants as refusal

-- What these contents say, or why they are no outbox's.
abbrev pub Reads : Contents → Result Facts Refusal → Type 0
Reads contents (Ok facts) = (entries : List Record) × SpellRecords entries contents × (facts.state ≡ state_of entries)
Reads contents (Err (refusal.BadRecord index)) = IsFirstBadContent contents index
Reads contents (Err refusal.NoMemory) = ⊤
Reads contents (Err _) = ⊥

module _ {W : Type 0} (M : LogModel W) where
  -- These contents were read: they are what the log holds, where that is known, and as long as the log says.
  pub record WereRead (log : W) (contents : Contents) : Type 0 where
    pub size : M.size log ≡ size_of contents
    pub held : (held : Contents) → M.contents log ≡ Some held → contents ≡ held

  -- What the contents of the log say, or why they aren't an outbox's.
  abbrev pub Loads : W → W → Result Facts Refusal → Type 0
  Loads old new (Ok facts) = StaysUp M old new × Keeps M old new × ((contents : Contents) × WereRead old contents × Reads contents (Ok facts))
  Loads old new (Err refusal.Failed) = GoesDown M old new × Keeps M old new × M.goes old read_all false new
  Loads old new (Err (refusal.BadRecord index)) =
      StaysUp M old new × Keeps M old new × ((contents : Contents) × WereRead old contents × IsFirstBadContent contents index)
  Loads old new (Err (refusal.NotOurs place)) = StaysUp M old new × Keeps M old new × (is_some (M.contents old) ≡ false)
  Loads old new (Err refusal.NoMemory) = StaysUp M old new × Keeps M old new

  -- The outbox was opened: it stands for the records that the log's contents spell.
  pub record HasOpened (old : W) (outbox : OutboxState W) : Type 0 where
    pub contents : Contents
    pub entries : List Record
    pub read : WereRead old contents
    pub stands : StandsFor M outbox entries contents
    pub up : StaysUp M old outbox.log
    pub log : Keeps M old outbox.log

  -- An opening, by its answer.
  abbrev pub Opens : W → Result (OutboxState W) (OpenOutbox W) → Type 0
  Opens old (Ok outbox) = HasOpened old outbox
  Opens old (Err (Failed log)) = GoesDown M old log × Keeps M old log × M.goes old read_all false log
  Opens old (Err (BadRecord log index)) =
      StaysUp M old log × Keeps M old log × ((contents : Contents) × WereRead old contents × IsFirstBadContent contents index)
  Opens old (Err (NotOurs log place)) = StaysUp M old log × Keeps M old log × (is_some (M.contents old) ≡ false)
  Opens old (Err (NoMemory log)) = StaysUp M old log × Keeps M old log

-- the refusal, with which the log comes back
abbrev pub refused_with : {W : Type 0} → W → Refusal → OpenOutbox W
refused_with log refusal.Failed = Failed log
refused_with log (refusal.BadRecord index) = BadRecord log index
refused_with log (refusal.NotOurs place) = NotOurs log place
refused_with log refusal.NoMemory = NoMemory log

-- the log that comes back
abbrev pub log_in : {W : Type 0} → OpenOutbox W → W
log_in (Failed log) = log
log_in (BadRecord log index) = log
log_in (NotOurs log place) = log
log_in (NoMemory log) = log
