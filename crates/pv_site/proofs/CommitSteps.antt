-- What the last yes makes of a site and its log: its transaction commits, or is refused where the journal has no room.
use Rattle.std.proofs.Common.{◌≡◌, inl, ◌+◌, ◌≤◌, ℕ, Bool, true, false, Some, Result, Ok, Err, List, [], ◌∷◌, ◌++◌, sym, ap, subst, ◌∙◌, arith}
use Rattle.std.specs.Prelude.{not, if◌then◌else◌}
use Rattle.std.proofs.lemmas.Bool.{lt-ltb}
use Rattle.pv_base.specs.Assignment.{is_same_txn}
use Rattle.pv_base.specs.declared.limits.TheConstants.{MAX_SITES}
use Rattle.pv_base.specs.declared.txn.TxnId.{TxnId}
use Rattle.pv_coord.specs.Coordinator.{CoordMemory, voting_work, without_work}
use Rattle.pv_coord.specs.Work.{Work}
use Rattle.pv_format.specs.Record.{outcome_known}
use Rattle.pv_format.specs.RecordSpelling.{SpellsRecord}
use Rattle.pv_disk_model.specs.Calls.{Makes}
use Rattle.pv_disk_model.specs.Log.{Adds, Keeps, StaysUp}
use Rattle.pv_disk_model.specs.LogModel.{LogModel}
use Rattle.pv_disk_model.proofs.LogLemmas.{Keeps-refl}
use Rattle.pv_law_format.proofs.RangeLemmas.{record-spelled}
use Rattle.pv_law_step.proofs.Kept.{find-of}
use Rattle.pv_law_step.proofs.Lists.{of-some}
use Rattle.pv_locks.specs.LockTable as table
use Rattle.pv_locks.specs.LockTable.{LockTable}
use Rattle.pv_protocol.specs.Coordinate.{is_locking}
use Rattle.pv_protocol.specs.Here.{Here, is_full, length_with, refusing, without_entry, without_grant}
use Rattle.pv_protocol.specs.Keyed.{of_txn}
use Rattle.pv_protocol.specs.Records.{record_bytes}
use Rattle.pv_protocol.specs.Sound.{IsEntryInRange}
use Rattle.pv_protocol.specs.State as model
use Rattle.pv_protocol.specs.State.{Entry, journal_full}
use Rattle.pv_protocol.specs.Step.{after_step}
use Rattle.pv_protocol.specs.Vote.{committing}
use Rattle.pv_site.proofs.Recorded.{has-room, step-failed}
use Rattle.pv_site.proofs.Refused.{entry-found}
use Rattle.pv_site.proofs.Settling.{here-more, tied-more}
use Rattle.pv_site.proofs.Tied.{here-without, tied-locks, tied-without}
use Rattle.pv_site.proofs.VoteSteps.{voting-txn}
use Rattle.pv_site.specs.Answer.{IsAnswer}
use Rattle.pv_site.specs.Calls.{append_calls}
use Rattle.pv_site.specs.LastVote.{deciding}
use Rattle.pv_site.specs.OnLog.{AreReady, StepsOnLog}
use Rattle.pv_site.specs.SiteParts.{AreKept, AreTied, HaveStepped, here_of, running_of}
use Rattle.pv_site.specs.Room.{Writes}
use Rattle.pv_site.specs.declared.appending.Written.TheVariants as written
use Rattle.pv_site.specs.declared.error.StepError.{StepError}
use Rattle.pv_site.specs.declared.error.StepError.TheVariants.{NoMemory}
use Rattle.pv_site.specs.declared.input.Step.{Step}
use Rattle.pv_site.specs.declared.parts.SiteParts.{SiteParts}
use Rattle.pv_store.specs.Kept.{Kept}

module _ (parts : SiteParts) (tied : AreTied parts) (txn : TxnId) (work : Work) (is : voting_work parts.coord.contents txn ≡ Some work) where
  pub voting-entry : of_txn (λ (e : Entry). e.txn) txn (here_of parts).running.entries ≡ Some work.entry
  voting-entry = entry-found parts tied (λ (w : Work). not (is_locking w.entry.stage)) txn work is

  -- The transaction commits: its record is the last, and its entry and its grant end.
  pub committed-steps : (store : Kept) (coord : CoordMemory) (locks : LockTable) → store.site ≡ parts.store.site → store.catalog ≡ parts.store.catalog
      → store.records ≡ parts.store.records ++ outcome_known txn true ∷ [] → coord.contents ≡ without_work parts.coord.contents txn
      → locks ≡ table.without_grant parts.locks txn
      → HaveStepped parts (record parts { store = store; coord = coord; locks = locks }) (committing (here_of parts) work.entry)
  committed-steps store coord locks site catalog records gone ended =
      let first : SiteParts = record parts { store = store } in
      let second : SiteParts = record first { coord = coord } in
      let first_tied : AreTied first = tied-more parts store (outcome_known txn true) tied site catalog records in record {
        here = ap (λ (l : LockTable). record (here_of second) { running = running_of l coord.contents }) ended
            ∙ ap (λ (h : Here). record h { running = without_grant h.running txn }) (here-without first first_tied coord txn gone)
            ∙ ap (λ (h : Here). record h { running = without_grant (without_entry h.running txn) txn }) (here-more parts store (outcome_known txn true) records)
            ∙ ap (λ (t : TxnId). record (here_of parts) {
              records = parts.store.records ++ outcome_known t true ∷ [];
              running = without_grant (without_entry (here_of parts).running t) t;
            }) (voting-txn parts tied txn work is);
        tied = tied-locks second (tied-without first first_tied coord txn gone) locks (ap (λ (l : LockTable). l.epoch) ended);
      }

module _ {W : Type 0} (M : LogModel W) (log_old log_new : W) (parts : SiteParts) (ready : AreReady M log_old parts)
    (txn : TxnId) (work : Work) (is : voting_work parts.coord.contents txn ≡ Some work) where
  tied : AreTied parts
  tied = ready.sound.tied

  -- Its record has a spelling.
  pub commit-spelled : (bytes : List ℕ) × SpellsRecord (outcome_known txn true) bytes
  commit-spelled =
      let range : IsEntryInRange MAX_SITES parts.catalog work.entry =
      of-some (IsEntryInRange MAX_SITES parts.catalog) (of_txn (λ (e : Entry). e.txn) txn (here_of parts).running.entries) work.entry
      (find-of (IsEntryInRange MAX_SITES parts.catalog) (λ (e : Entry). is_same_txn txn e.txn) (here_of parts).running.entries ready.sound.range.running.entries)
      (voting-entry parts tied txn work is) in
      subst (λ (t : TxnId). (bytes : List ℕ) × SpellsRecord (outcome_known t true) bytes) (sym (voting-txn parts tied txn work is))
      (record-spelled (outcome_known work.entry.txn true) range.txn)

  decides : (b : Bool) → is_full (here_of parts) (outcome_known txn true) ≡ b
      → deciding (here_of parts) work.entry
      ≡ (if b then refusing (here_of parts) work.entry (journal_full parts.me.0 (length_with (here_of parts) (outcome_known txn true))) else committing (here_of parts) work.entry)
  decides b full =
      ap (λ (t : TxnId). if is_full (here_of parts) (outcome_known t true)
      then refusing (here_of parts) work.entry (journal_full parts.me.0 (length_with (here_of parts) (outcome_known t true))) else committing (here_of parts) work.entry)
      (sym (voting-txn parts tied txn work is))
      ∙ ap (λ (c : Bool). if c then refusing (here_of parts) work.entry (journal_full parts.me.0 (length_with (here_of parts) (outcome_known txn true))) else committing (here_of parts) work.entry) full

  -- Where the log has room, the transaction commits.
  pub decides-commit : M.size log_old + record_bytes (outcome_known txn true) ≤ M.limit log_old → deciding (here_of parts) work.entry ≡ committing (here_of parts) work.entry
  decides-commit fits = decides false (has-room M log_old log_new parts parts ready (outcome_known txn true) fits)

  -- Where it has none, the transaction is refused.
  decides-refuse : (length : ℕ) → Writes M log_old log_new (outcome_known txn true) (Ok (written.Full length))
      → deciding (here_of parts) work.entry ≡ refusing (here_of parts) work.entry (journal_full parts.me.0 length)
  decides-refuse length wrote =
      let same : length_with (here_of parts) (outcome_known txn true) ≡ length = omega (arith, wrote.1, ready.holds.size) in
      decides true (lt-ltb parts.catalog.journal (length_with (here_of parts) (outcome_known txn true)) (omega (arith, wrote.1, wrote.2, ready.limit, ready.holds.size)))
      ∙ ap (λ (n : ℕ). refusing (here_of parts) work.entry (journal_full parts.me.0 n)) same

  -- The record is in the log.
  pub commit-recorded : (new : SiteParts) (answer : Step) → Writes M log_old log_new (outcome_known txn true) (Ok written.Done)
      → HaveStepped parts new (committing (here_of parts) work.entry) → IsAnswer answer (committing (here_of parts) work.entry)
      → StepsOnLog M log_old log_new parts new (deciding (here_of parts) work.entry) (Ok answer)
  commit-recorded new answer wrote stepped answered =
      subst (λ (s : model.Step). StepsOnLog M log_old log_new parts new s (Ok answer)) (sym (decides-commit wrote.0)) (
        stepped,
        answered,
        (
          wrote.1,
          subst (λ (t : TxnId). (content : List ℕ) × SpellsRecord (outcome_known t true) content × Adds M log_old log_new content × Makes M.goes log_old (append_calls content) true log_new) (voting-txn parts tied txn work is) wrote.2,
        ),
      )

  -- The record could not be written.
  pub commit-failed : (new : SiteParts) (error : StepError) → Writes M log_old log_new (outcome_known txn true) (Err error) → AreKept parts new
      → StepsOnLog M log_old log_new parts new (deciding (here_of parts) work.entry) (Err error)
  commit-failed new error wrote kept =
      step-failed M log_old log_new parts new (outcome_known txn true) (deciding (here_of parts) work.entry)
      (λ fits. ap (λ (s : model.Step). s.appended) (decides-commit fits) ∙ ap (λ (t : TxnId). Some (outcome_known t true)) (sym (voting-txn parts tied txn work is)))
      error wrote kept

  -- There is no room in the log.
  module _ (mid : SiteParts) (same : AreKept parts mid) (new : SiteParts) (length : ℕ) (wrote : Writes M log_old log_new (outcome_known txn true) (Ok (written.Full length))) where
    pub commit-refused : (answer : Step) → HaveStepped mid new (refusing (here_of mid) work.entry (journal_full parts.me.0 length))
        × IsAnswer answer (refusing (here_of mid) work.entry (journal_full parts.me.0 length))
        → StepsOnLog M log_old log_new parts new (deciding (here_of parts) work.entry) (Ok answer)
    commit-refused answer made =
        subst (λ (s : model.Step). StepsOnLog M log_old log_new parts new s (Ok answer)) (sym (decides-refuse length wrote)) (
          record {
            here = made.0.here ∙ ap (λ (h : Here). after_step h (refusing h work.entry (journal_full parts.me.0 length))) same.here;
            tied = made.0.tied;
          },
          subst (λ (h : Here). IsAnswer answer (refusing h work.entry (journal_full parts.me.0 length))) same.here made.1,
          wrote.0,
        )

    stays : StaysUp M log_old log_old
    stays = record { was_up = ready.holds.up; is_up = ready.holds.up; faults = omega arith }

    pub refusal-failed : (result : Result Step StepError) → result ≡ Err NoMemory → AreKept mid new
        → StepsOnLog M log_old log_new parts new (deciding (here_of parts) work.entry) result
    refusal-failed result none kept =
        subst (StepsOnLog M log_old log_new parts new (deciding (here_of parts) work.entry)) (sym none) (
          record { here = kept.here ∙ same.here; tied = kept.tied },
          subst (StaysUp M log_old) (sym wrote.0) stays,
          subst (Keeps M log_old) (sym wrote.0) (Keeps-refl M log_old),
          inl wrote.0,
        )
