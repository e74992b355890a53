-- What opening a site does, by its answer.
use Rattle.std.specs.Prelude.{◌≡◌, ◌⊎◌, ℕ, ◌++◌, ◌∷◌, [], Bool, true, false, List, Some, None, is_some, length, ◌==◌, ◌≢◌, ◌-◌, ◌^◌, min, Result, Ok, Err}
use Rattle.pv_base.specs.Catalog.{Declared}
use Rattle.pv_format.specs.Contents.{SpellRecords, IsFirstBadContent, greatest_epoch}
use Rattle.pv_format.specs.Record.{Record, epoch_begun}
use Rattle.pv_format.specs.RecordSpelling.{SpellsRecord}
use Rattle.pv_disk_model.specs.Calls.{Makes, read_all}
use Rattle.pv_disk_model.specs.Log.{Keeps, Adds, MayAdd, StaysUp, GoesDown}
use Rattle.pv_disk_model.specs.LogModel.{LogModel}
use Rattle.pv_disk_model.specs.Size.{Contents, size_of}
use Rattle.pv_protocol.specs.Start.{site_start, starts, too_long, no_epoch}
use Rattle.pv_protocol.specs.State.{Running}
use Rattle.pv_store.specs.Refusals.{too_many_in}
use Rattle.pv_site.specs.Calls.{append_calls, AsksFor, FailsToAppend}
use Rattle.pv_site.specs.SiteState.{SiteState, setup_of}
use Rattle.pv_site.specs.Surplus.{surplus_of}
use Rattle.pv_replay.specs.Values.{records_of}
use Rattle.pv_site.specs.declared.opening.Found.{Found}
use Rattle.pv_site.specs.declared.opening.Loaded.{Loaded}
use Rattle.pv_site.specs.declared.opening.Refusal.{Refusal}
use Rattle.pv_site.specs.declared.opening.Refusal.TheVariants as refusal
use Rattle.pv_site.specs.declared.error.ResumeError.{ResumeError}
use Rattle.pv_site.specs.declared.error.ResumeError.TheVariants as resume
use Rattle.pv_site.specs.declared.error.OpenError.{OpenError}
use Rattle.pv_site.specs.declared.error.OpenError.TheVariants.{Failed, Full, EpochsSpent, BadRecord, TooManyOutcomes, NotOurs, NoMemory}

module _ {W : Type 0} (M : LogModel W) where
  -- These contents were read: those that the log holds, where these are known.
  abbrev pub WereRead : W → Contents → Type 0
  WereRead log contents = (held : Contents) → M.contents log ≡ Some held → contents ≡ held

  -- What was read isn't the log's: the log said so; or what was read has this length, or a greater one where this is u64's greatest value, and the log
  -- has another.
  abbrev pub IsNotOurs : W → W → ℕ → Type 0
  IsNotOurs old new place =
      M.goes old read_all false new
      ⊎ ((contents : Contents) × WereRead old contents × (place ≡ min (size_of contents) (2 ^ 64 - 1)) × (size_of contents ≢ M.size old) × M.goes old read_all true new)

  -- The log is as it was, and these records were read from it.
  pub record ReadsRecords (old new : W) (records : List Record) : Type 0 where
    pub contents : Contents
    pub read : WereRead old contents
    pub size : M.size old ≡ size_of contents
    pub spelled : SpellRecords records contents
    pub up : StaysUp M old new
    pub log : Keeps M old new
    pub call : M.goes old read_all true new

  -- Records were read, the greatest epoch among them is this one, and it is said whether there were none, and by how many bytes the log is longer than they make it.
  abbrev pub HasFound : W → W → Found → Type 0
  HasFound old new found =
      let records = records_of found.past.records.items in
      ((read : ReadsRecords old new records) × (found.first ≡ (length read.contents == 0)) × (found.surplus ≡ surplus_of read.contents records)) × (found.past.epoch ≡ greatest_epoch records)

  -- What comes of reading the records, by the answer.
  abbrev pub ReadsPast : W → W → Result Found Refusal → Type 0
  ReadsPast old new (Ok found) = HasFound old new found
  ReadsPast old new (Err refusal.Failed) = GoesDown M old new × Keeps M old new × M.goes old read_all false new
  ReadsPast old new (Err (refusal.NotOurs place)) =
      StaysUp M old new × Keeps M old new × (is_some (M.contents old) ≡ false) × IsNotOurs old new place
  ReadsPast old new (Err (refusal.BadRecord index)) =
      StaysUp M old new × Keeps M old new × ((contents : Contents) × WereRead old contents × IsFirstBadContent contents index) × M.goes old read_all true new
  ReadsPast old new (Err refusal.NoMemory) = StaysUp M old new × Keeps M old new × ((ok : Bool) × M.goes old read_all ok new)
  ReadsPast old new (Err other) = ⊥

  -- The site runs: it has recorded the epoch after the last one, and has nothing else in memory.
  pub record HasOpened (old : W) (me : ℕ) (catalog : Declared) (opened : SiteState W) : Type 0 where
    pub contents : Contents
    pub records : List Record
    pub running : Running
    pub epoch : ℕ
    pub content : List ℕ
    pub read : WereRead old contents
    pub size : M.size old ≡ size_of contents
    pub spelled : SpellRecords records contents
    pub narrow : too_many_in catalog me records ≡ None
    pub starts : site_start (setup_of catalog) (surplus_of contents records) records ≡ starts running (epoch_begun epoch)
    pub site : opened ≡ record {
      me = me;
      catalog = catalog;
      records = records ++ epoch_begun epoch ∷ [];
      running = Some running;
      epoch = epoch;
      first = length contents == 0;
      surplus = surplus_of contents records;
      log = opened.log;
    }
    pub content_is : SpellsRecord (epoch_begun epoch) content
    pub up : StaysUp M old opened.log
    pub log : Adds M old opened.log content
    pub calls : Makes M.goes old (read_all ∷ append_calls content) true opened.log

  -- The log failed as it was read, and holds what it held.
  pub record FailsToRead (old new : W) : Type 0 where
    pub down : GoesDown M old new
    pub log : Keeps M old new
    pub call : M.goes old read_all false new

  -- The log failed at the record of the epoch after the last one, which it holds, or it doesn't, and it doesn't where room was asked for in vain.
  pub record FailsToBegin (old : W) (me : ℕ) (catalog : Declared) (new : W) : Type 0 where
    pub contents : Contents
    pub records : List Record
    pub running : Running
    pub epoch : ℕ
    pub content : List ℕ
    pub read : WereRead old contents
    pub size : M.size old ≡ size_of contents
    pub spelled : SpellRecords records contents
    pub narrow : too_many_in catalog me records ≡ None
    pub starts : site_start (setup_of catalog) (surplus_of contents records) records ≡ starts running (epoch_begun epoch)
    pub content_is : SpellsRecord (epoch_begun epoch) content
    pub down : GoesDown M old new
    pub log : MayAdd M old new content
    -- what it is once it was read
    pub mid : W
    pub kept : Keeps M old mid
    pub reading : M.goes old read_all true mid
    pub calls : FailsToAppend M mid new content

  -- The log failed.
  abbrev pub HasFailed : W → ℕ → Declared → W → Type 0
  HasFailed old me catalog new = FailsToRead old new ⊎ FailsToBegin old me catalog new

  -- Why a site with these records is refused, once they were read.
  abbrev pub RefusesRecords : W → ℕ → Declared → W → (Contents → List Record → Type 0) → Type 0
  RefusesRecords old me catalog new IsCause = (records : List Record) × (read : ReadsRecords old new records) × IsCause read.contents records

  -- An opening, by its answer.
  abbrev pub Opens : W → ℕ → Declared → Result (SiteState W) (OpenError W) → Type 0
  Opens old me catalog (Ok site) = HasOpened old me catalog site
  Opens old me catalog (Err (Failed log)) = HasFailed old me catalog log
  Opens old me catalog (Err (NotOurs log place)) =
      StaysUp M old log × Keeps M old log × (is_some (M.contents old) ≡ false) × IsNotOurs old log place
  Opens old me catalog (Err (BadRecord log index)) =
      StaysUp M old log × Keeps M old log × ((contents : Contents) × WereRead old contents × IsFirstBadContent contents index) × M.goes old read_all true log
  Opens old me catalog (Err (TooManyOutcomes log count)) =
      RefusesRecords old me catalog log (λ contents records. too_many_in catalog me records ≡ Some count)
  Opens old me catalog (Err (EpochsSpent log)) =
      RefusesRecords old me catalog log (λ contents records. (too_many_in catalog me records ≡ None) × (site_start (setup_of catalog) (surplus_of contents records) records ≡ no_epoch))
  Opens old me catalog (Err (Full log length)) =
      RefusesRecords old me catalog log (λ contents records. (too_many_in catalog me records ≡ None) × (site_start (setup_of catalog) (surplus_of contents records) records ≡ too_long length))
  Opens old me catalog (Err (NoMemory log)) = StaysUp M old log × Keeps M old log × AsksFor M old log

-- the refusal, with which the log comes back
abbrev pub refused_with : {W : Type 0} → W → Refusal → OpenError W
refused_with log refusal.Failed = Failed log
refused_with log (refusal.Full length) = Full log length
refused_with log refusal.EpochsSpent = EpochsSpent log
refused_with log (refusal.BadRecord index) = BadRecord log index
refused_with log (refusal.TooManyOutcomes count) = TooManyOutcomes log count
refused_with log (refusal.NotOurs place) = NotOurs log place
refused_with log refusal.NoMemory = NoMemory log

-- the log that comes back
abbrev pub log_in : {W : Type 0} → OpenError W → W
log_in (Failed log) = log
log_in (Full log length) = log
log_in (EpochsSpent log) = log
log_in (BadRecord log index) = log
log_in (TooManyOutcomes log count) = log
log_in (NotOurs log place) = log
log_in (NoMemory log) = log

-- What the records of a log say, or why a site with this log isn't opened.
abbrev pub Loads : {W : Type 0} → LogModel W → W → W → ℕ → Declared → Result Loaded Refusal → Type 0
Loads M old new me catalog (Ok loaded) =
    (records : List Record)
    × ((read : ReadsRecords M old new records) × (loaded.first ≡ (length read.contents == 0))
    × (loaded.left ≡ record { me = me; catalog = catalog; records = records; surplus = surplus_of read.contents records })) × (too_many_in catalog me records ≡ None)
Loads M old new me catalog (Err reason) = Opens M old me catalog (Err (refused_with new reason))

-- why the site isn't opened, where it doesn't go on from what was read
abbrev pub unopened : {W : Type 0} → ResumeError W → OpenError W
unopened (resume.Failed log left) = Failed log
unopened (resume.Full log left length) = Full log length
unopened (resume.EpochsSpent log left) = EpochsSpent log
unopened (resume.NoMemory log left) = NoMemory log
