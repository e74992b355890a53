-- How a site goes on from what outlived its memory, by the answer.
use Rattle.std.specs.Prelude.{◌≡◌, ℕ, ◌+◌, ◌<◌, ◌≤◌, ◌++◌, ◌∷◌, [], Bool, true, List, Some, None, Result, Ok, Err, ⊤}
use Rattle.pv_base.specs.Catalog.{Declared}
use Rattle.pv_base.specs.declared.limits.TheConstants.{NEVER_GIVEN}
use Rattle.pv_format.specs.Contents.{greatest_epoch}
use Rattle.pv_format.specs.Record.{Record, epoch_begun}
use Rattle.pv_format.specs.RecordSpelling.{SpellsRecord}
use Rattle.pv_disk_model.specs.Calls.{Makes}
use Rattle.pv_disk_model.specs.Log.{Keeps, Adds, MayAdd, StaysUp, GoesDown}
use Rattle.pv_disk_model.specs.LogModel.{LogModel}
use Rattle.pv_protocol.specs.Here.{Here}
use Rattle.pv_protocol.specs.Start.{just_started, site_start, starts, too_long, no_epoch}
use Rattle.pv_protocol.specs.State.{Running}
use Rattle.pv_store.specs.Refusals.{too_many_in}
use Rattle.pv_store.specs.declared.error.StoreError.{StoreError}
use Rattle.pv_store.specs.declared.error.StoreError.TheVariants as store
use Rattle.pv_site.specs.Calls.{append_calls, FailsToAppend, MayReserve}
use Rattle.pv_site.specs.OnLog.{HoldsRecords}
use Rattle.pv_site.specs.Recovered.{Remains}
use Rattle.pv_site.specs.Room.{Writes}
use Rattle.pv_site.specs.SiteState.{SiteState, setup_of}
use Rattle.pv_site.specs.declared.appending.Written.TheVariants as written
use Rattle.pv_site.specs.declared.error.ResumeError.{ResumeError}
use Rattle.pv_site.specs.declared.error.ResumeError.TheVariants.{Failed, Full, EpochsSpent, NoMemory}
use Rattle.pv_site.specs.declared.error.StepError.{StepError}
use Rattle.pv_site.specs.declared.recovered.Advanced.{Advanced}
use Rattle.pv_site.specs.declared.recovered.Advanced.TheVariants as advanced

-- What is left of a site with these records, or why the records aren't taken.
abbrev pub Recovers : ℕ → Declared → ℕ → List Record → Result Remains StoreError → Type 0
Recovers me catalog surplus records (Ok left) = (left ≡ record { me = me; catalog = catalog; records = records; surplus = surplus }) × (too_many_in catalog me records ≡ None)
Recovers me catalog surplus records (Err (store.TooManyOutcomes count)) = too_many_in catalog me records ≡ Some count
Recovers me catalog surplus records (Err store.NoMemory) = ⊤

-- the epoch after the last one of these records
abbrev pub next_epoch : List Record → ℕ
next_epoch records = greatest_epoch records + 1

-- the same, with that epoch
abbrev pub advanced_from : Remains → Remains
advanced_from left = record left { records = left.records ++ epoch_begun (next_epoch left.records) ∷ [] }

-- What a step looks at of a site that has just begun in the last epoch of these records.
abbrev pub here_begun : Remains → Here
here_begun left = record {
  me = left.me;
  setup = setup_of left.catalog;
  records = left.records;
  surplus = left.surplus;
  running = just_started (greatest_epoch left.records);
}

module _ {W : Type 0} (M : LogModel W) where
  -- The site, which is one of the catalog's, can go on over the log: it is as it was left, and holds the records.
  pub record CanResume (log : W) (left : Remains) : Type 0 where
    pub intact : M.is_intact log
    pub limit : M.limit log ≡ left.catalog.journal
    pub holds : HoldsRecords M log left.surplus left.records
    pub site : left.me < left.catalog.sites

  -- The site runs: it has recorded the epoch after the last one, and has nothing else in memory.
  pub record HasResumed (old : W) (left : Remains) (was_empty : Bool) (resumed : SiteState W) : Type 0 where
    pub running : Running
    pub epoch : ℕ
    pub content : List ℕ
    pub starts : site_start (setup_of left.catalog) left.surplus left.records ≡ starts running (epoch_begun epoch)
    pub site : resumed ≡ record {
      me = left.me;
      catalog = left.catalog;
      records = left.records ++ epoch_begun epoch ∷ [];
      running = Some running;
      epoch = epoch;
      first = was_empty;
      surplus = left.surplus;
      log = resumed.log;
    }
    pub content_is : SpellsRecord (epoch_begun epoch) content
    pub up : StaysUp M old resumed.log
    pub log : Adds M old resumed.log content
    pub calls : Makes M.goes old (append_calls content) true resumed.log

  -- The log failed at the record of the epoch after the last one, which it holds, or it doesn't, and it doesn't where room was asked for in vain.
  pub record FailsToResume (old : W) (left : Remains) (new : W) : Type 0 where
    pub running : Running
    pub epoch : ℕ
    pub content : List ℕ
    pub starts : site_start (setup_of left.catalog) left.surplus left.records ≡ starts running (epoch_begun epoch)
    pub content_is : SpellsRecord (epoch_begun epoch) content
    pub down : GoesDown M old new
    pub log : MayAdd M old new content
    pub calls : FailsToAppend M old new content

  -- Going on, by the answer. It is said whether the log was empty. Where the site is refused before it writes, the log comes back as it was, and
  -- what is left comes back as it was wherever the site is refused.
  abbrev pub Resumes : W → Remains → Bool → Result (SiteState W) (ResumeError W) → Type 0
  Resumes old left was_empty (Ok site) = HasResumed old left was_empty site
  Resumes old left was_empty (Err (Failed log back)) = (back ≡ left) × FailsToResume old left log
  Resumes old left was_empty (Err (Full log back length)) =
      (log ≡ old) × (back ≡ left) × (site_start (setup_of left.catalog) left.surplus left.records ≡ too_long length)
  Resumes old left was_empty (Err (EpochsSpent log back)) =
      (log ≡ old) × (back ≡ left) × (site_start (setup_of left.catalog) left.surplus left.records ≡ no_epoch)
  Resumes old left was_empty (Err (NoMemory log back)) = (back ≡ left) × StaysUp M old log × Keeps M old log × MayReserve M old log

  -- The next epoch of what is left, by the answer: it is written and recorded; the log would be too long with it; none is left; or why it
  -- couldn't be written.
  abbrev pub Advances : W → W → Remains → Remains → Result Advanced StepError → Type 0
  Advances old new before after (Ok advanced.Done) =
      (after ≡ advanced_from before) × (next_epoch before.records < NEVER_GIVEN) × Writes M old new (epoch_begun (next_epoch before.records)) (Ok written.Done)
  Advances old new before after (Ok (advanced.Full length)) =
      (after ≡ before) × (next_epoch before.records < NEVER_GIVEN) × Writes M old new (epoch_begun (next_epoch before.records)) (Ok (written.Full length))
  Advances old new before after (Ok advanced.Spent) = (after ≡ before) × (new ≡ old) × (NEVER_GIVEN ≤ next_epoch before.records)
  Advances old new before after (Err error) =
      (after ≡ before) × (next_epoch before.records < NEVER_GIVEN) × Writes M old new (epoch_begun (next_epoch before.records)) (Err error)

-- the log that comes back
abbrev pub log_left : {W : Type 0} → ResumeError W → W
log_left (Failed log back) = log
log_left (Full log back length) = log
log_left (EpochsSpent log back) = log
log_left (NoMemory log back) = log
