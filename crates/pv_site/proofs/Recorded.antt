-- What the parts of a site are once an outcome is recorded.
use Rattle.std.proofs.Common.{◌≡◌, ◌+◌, ◌≤◌, Bool, false, Some, None, Ok, Err, List, [], ◌∷◌, ◌++◌, map, sym, ap, subst, ◌∙◌, arith}
use Rattle.std.specs.Prelude.{All, if◌then◌else◌}
use Rattle.std.proofs.lemmas.Bool.{le-ltb}
use Rattle.pv_base.specs.declared.txn.TxnId.{TxnId}
use Rattle.pv_format.specs.Record.{Record, outcome_known}
use Rattle.pv_disk_model.specs.LogModel.{LogModel}
use Rattle.pv_locks.specs.LockTable as table
use Rattle.pv_locks.specs.LockTable.{LockTable}
use Rattle.pv_part.specs.Cases.{IsOutcomeStep}
use Rattle.pv_part.specs.declared.cases.OutcomeCase.TheVariants as outcome
use Rattle.pv_protocol.specs.Here.{is_full, length_with, noting}
use Rattle.pv_protocol.specs.Outcome.{learning}
use Rattle.pv_protocol.specs.Records.{record_bytes}
use Rattle.pv_protocol.specs.State as model
use Rattle.pv_protocol.specs.State.{Entry, full}
use Rattle.pv_site.proofs.Answered.{Says}
use Rattle.pv_site.proofs.Settling.{tied-more}
use Rattle.pv_site.proofs.Tied.{tied-locks}
use Rattle.pv_site.specs.OnLog.{AreReady, StepsOnLog}
use Rattle.pv_site.specs.Room.{Writes}
use Rattle.pv_site.specs.Values.{note_of, outgoing_of}
use Rattle.pv_site.specs.declared.appending.Written.TheVariants as written
use Rattle.pv_site.specs.declared.error.StepError.{StepError}
use Rattle.pv_site.specs.declared.error.StepError.TheVariants.{Fault, Down, NoMemory}
use Rattle.pv_site.specs.declared.input.Step.{Step}
use Rattle.pv_site.specs.SiteParts.{AreKept, AreTied, HaveStepped, IsWorkOf, here_of, running_of}
use Rattle.pv_site.specs.declared.parts.SiteParts.{SiteParts}
use Rattle.pv_store.specs.Kept.{HasSameContents, Kept}

module _ (parts : SiteParts) (tied : AreTied parts) (store : Kept) where
  -- The store has other room.
  pub kept-store : HasSameContents parts.store store → AreKept parts (record parts { store = store })
  kept-store same = record {
    here = ap (λ (records : List Record). record (here_of parts) { records = records }) same.records;
    tied = record {
      store_site = same.site ∙ tied.store_site;
      store_catalog = same.catalog ∙ tied.store_catalog;
      coord_site = tied.coord_site;
      epochs = tied.epochs;
      order = tied.order;
      works = subst (λ (records : List Record). All (IsWorkOf parts.catalog records) parts.coord.contents.entries) (sym same.records) tied.works;
    };
  }

  -- The outcome is recorded, and a grant of the transaction ends.
  pub learned : (locks : LockTable) (txn : TxnId) (commits : Bool) → store.site ≡ parts.store.site → store.catalog ≡ parts.store.catalog
      → store.records ≡ parts.store.records ++ outcome_known txn commits ∷ [] → locks ≡ table.without_grant parts.locks txn
      → HaveStepped parts (record parts { store = store; locks = locks }) (learning (here_of parts) txn commits)
  learned locks txn commits site catalog records ended = record {
    here = ap (λ (kept : List Record). record (here_of parts) { records = kept; running = running_of locks parts.coord.contents }) records
        ∙ ap (λ (l : LockTable). record (here_of parts) { records = parts.store.records ++ outcome_known txn commits ∷ []; running = running_of l parts.coord.contents }) ended;
    tied = tied-locks (record parts { store = store }) (tied-more parts store (outcome_known txn commits) tied site catalog records) locks (ap (λ (l : LockTable). l.epoch) ended);
  }

module _ {W : Type 0} (M : LogModel W) (log_old log_new : W) (old new : SiteParts) where
  -- Where the log has room for a record, the journal does.
  pub has-room : AreReady M log_old old → (more : Record) → M.size log_old + record_bytes more ≤ M.limit log_old → is_full (here_of old) more ≡ false
  has-room ready more fits = le-ltb old.catalog.journal (length_with (here_of old) more) (omega (arith, fits, ready.limit, ready.holds.size))

  -- The step's record could not be written.
  pub step-failed : (more : Record) (step : model.Step) → (M.size log_old + record_bytes more ≤ M.limit log_old → step.appended ≡ Some more)
      → (error : StepError) → Writes M log_old log_new more (Err error) → AreKept old new → StepsOnLog M log_old log_new old new step (Err error)
  step-failed more step appends Fault wrote kept = (
    kept,
    record { appended = more; content = wrote.2.0; is = appends wrote.0; spelled = wrote.2.1; down = wrote.1; log = wrote.2.2; calls = wrote.2.3 },
  )
  step-failed more step appends Down wrote kept = wrote
  step-failed more step appends NoMemory wrote kept = (kept, wrote.0, wrote.1, wrote.2)

  module _ (ready : AreReady M log_old old) (txn : TxnId) (commits : Bool) (step : model.Step) (is : IsOutcomeStep (here_of old) txn commits outcome.Record step) where
    step-learns : M.size log_old + record_bytes (outcome_known txn commits) ≤ M.limit log_old → step ≡ learning (here_of old) txn commits
    step-learns fits =
        is
        ∙ ap (λ (b : Bool). if b then noting (here_of old) (full (length_with (here_of old) (outcome_known txn commits))) else learning (here_of old) txn commits)
        (has-room ready (outcome_known txn commits) fits)

    -- The outcome is in the log.
    pub outcome-recorded : (answer : Step) → Writes M log_old log_new (outcome_known txn commits) (Ok written.Done) → Says answer [] [] None
        → HaveStepped old new (learning (here_of old) txn commits) → StepsOnLog M log_old log_new old new step (Ok answer)
    outcome-recorded answer wrote says stepped =
        subst (λ (s : model.Step). StepsOnLog M log_old log_new old new s (Ok answer)) (sym (step-learns wrote.0))
        (stepped, record { sends = ap (map outgoing_of) says.sends; notes = ap (map note_of) says.notes; locked = says.locked }, (wrote.1, wrote.2))

    -- The outcome could not be written.
    pub outcome-failed : (error : StepError) → Writes M log_old log_new (outcome_known txn commits) (Err error) → AreKept old new
        → StepsOnLog M log_old log_new old new step (Err error)
    outcome-failed error wrote kept =
        step-failed (outcome_known txn commits) step (λ fits. ap (λ (s : model.Step). s.appended) (step-learns fits)) error wrote kept
