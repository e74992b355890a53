-- What a site goes on from that is opened on the bytes that a crash left.
use Rattle.std.specs.Prelude.{◌≡◌, ◌⊎◌, ℕ, List, [], ◌∷◌, ◌++◌, Some, Result, Ok, Err}
use Rattle.pv_base.specs.Catalog.{Declared}
use Rattle.pv_format.specs.Contents.{SpellRecords}
use Rattle.pv_format.specs.Record.{Record, epoch_begun}
use Rattle.pv_journal.specs.JournalModel.{journal_model}
use Rattle.pv_journal.specs.Opening as journal
use Rattle.pv_journal.specs.declared.journal.Journal.{Journal}
use Rattle.pv_journal.specs.declared.open_log.OpenLog.TheVariants.{NotOurs}
use Rattle.pv_disk_model.specs.DiskModel.{DiskModel}
use Rattle.pv_disk_model.specs.Size.{Contents}
use Rattle.pv_format.specs.Journal.{IsJournal}
use Rattle.pv_protocol.specs.State.{Running, Input}
use Rattle.pv_protocol.specs.Step.{step_on, records_after}
use Rattle.pv_site.specs.Opens as site
use Rattle.pv_site.specs.Opens.{log_in}
use Rattle.pv_site.specs.SiteState.{SiteState, here_with}
use Rattle.pv_site.specs.declared.error.OpenError.{OpenError}
use Rattle.pv_site.specs.declared.error.OpenError.TheVariants as refused

-- The records are those before the step, or these with the step's one.
abbrev pub IsBeforeOrAfter : {W : Type 0} → SiteState W → Running → Input → List Record → Type 0
IsBeforeOrAfter old running input records =
    (records ≡ old.records) ⊎ (records ≡ records_after old.records (step_on (here_with old running) input))

-- These are the records that the contents spell, or these and that of an epoch.
abbrev pub IsBegunOrNot : Contents → List Record → Type 0
IsBegunOrNot contents records = (front : List Record) × SpellRecords front contents × ((records ≡ front) ⊎ ((epoch : ℕ) × (records ≡ front ++ epoch_begun epoch ∷ [])))

-- the log of a site that was opened, or with which the opening was refused
abbrev pub log_of : {W : Type 0} → Result (SiteState W) (OpenError W) → W
log_of (Ok opened) = opened.log
log_of (Err error) = log_in error

-- The bytes are a journal of such records. On a disk with them neither the journal nor a site on it is refused for what the bytes are, and a site that is
-- opened goes on from the records, and adds to them that of its epoch alone. Whether a value names too many outcomes isn't said here.
pub record Recovers {D : Type 0} (M : DiskModel D) (left : List ℕ) (AreSuch : List Record → Type 0) : Type 0 where
  pub records : List Record
  pub are_such : AreSuch records
  pub contents : Contents
  pub spelled : SpellRecords records contents
  pub is_journal : IsJournal contents left
  pub not_refused : (disk after : D) (limit place : ℕ) → M.content disk ≡ Some left → journal.Opens M disk limit (Err (NotOurs after place)) → ⊥
  pub goes_on : (disk : D) (limit : ℕ) (log : Journal D) (me : ℕ) (catalog : Declared) (opened : SiteState (Journal D)) →
      M.content disk ≡ Some left → journal.Opens M disk limit (Ok log) → site.Opens (journal_model M) log me catalog (Ok opened) →
      opened.records ≡ records ++ epoch_begun opened.epoch ∷ []
  pub is_readable : (disk : D) (limit : ℕ) (log after : Journal D) (me index : ℕ) (catalog : Declared) → M.content disk ≡ Some left
      → journal.Opens M disk limit (Ok log) → site.Opens (journal_model M) log me catalog (Err (refused.BadRecord after index)) → ⊥
  pub is_ours : (disk : D) (limit : ℕ) (log after : Journal D) (me place : ℕ) (catalog : Declared) → M.content disk ≡ Some left
      → journal.Opens M disk limit (Ok log) → site.Opens (journal_model M) log me catalog (Err (refused.NotOurs after place)) → ⊥
