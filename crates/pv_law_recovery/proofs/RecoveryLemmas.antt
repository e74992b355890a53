-- From what a crash leaves to what a site goes on from.
use Rattle.std.specs.Prelude.{◌≡◌, ◌⊎◌, ◌↔◌, ℕ, List, [], ◌∷◌, ◌++◌, Option, Some, None, Result, Ok, Err, is_some, false, option_and_then}
use Rattle.std.proofs.Common.{refl, sym, subst, ap, ◌∙◌, inl, inr, arith}
use Rattle.std.proofs.lemmas.Bool.{false≢true}
use Rattle.pv_base.specs.Answer.{HasOneAnswer}
use Rattle.pv_base.specs.Catalog.{Declared}
use Rattle.pv_format.specs.Contents.{IsFirstBadContent, SpellRecords}
use Rattle.pv_format.specs.Record.{Record, epoch_begun}
use Rattle.pv_format.specs.RecordSpelling.{SpellsRecord}
use Rattle.pv_journal.specs.Journal.{contents_now}
use Rattle.pv_journal.specs.JournalModel.{journal_model}
use Rattle.pv_journal.specs.Opening as journal
use Rattle.pv_journal.specs.declared.journal.Journal.{Journal}
use Rattle.pv_disk_model.proofs.LogLemmas.{settled_since}
use Rattle.pv_disk_model.specs.DiskModel.{DiskModel}
use Rattle.pv_disk_model.specs.Log.{IsBeforeOrAfter, Keeps}
use Rattle.pv_disk_model.specs.LogModel.{LogModel}
use Rattle.pv_disk_model.specs.Size.{Contents}
use Rattle.pv_format.specs.JournalContents.{contents_of}
use Rattle.pv_format.specs.Journal.{IsJournal, IsNotOurs}
use Rattle.pv_law_format.proofs.ReplayLemmas.{no-bad, spelled-more}
use Rattle.pv_law_recovery.specs.Recovery.{IsBegunOrNot, Recovers, log_of}
use Rattle.pv_protocol.specs.State.{Running}
use Rattle.pv_site.specs.Crashes.{AreContentsOf, IsUp}
use Rattle.pv_site.specs.Opens.{Opens}
use Rattle.pv_site.specs.SiteState.{SiteState}
use Rattle.pv_site.specs.Steps.{HoldsWhatRuns}
use Rattle.pv_site.specs.declared.error.OpenError.{OpenError}
use Rattle.pv_site.specs.declared.error.OpenError.TheVariants.{Failed, Full, EpochsSpent, BadRecord, TooManyOutcomes, NotOurs, NoMemory}

-- Contents that spell records are there.
pub spelled-contents : (records : List Record) (left : Option Contents) → AreContentsOf records left → (contents : Contents) × (left ≡ Some contents) × SpellRecords records contents
spelled-contents records None are = absurd are
spelled-contents records (Some contents) spelled = (contents, refl, spelled)

-- The log of a site that is up holds its records.
pub up-holds : {W : Type 0} (M : LogModel W) (site : SiteState W) (running : Running) (up : IsUp M site running) → SpellRecords site.records up.contents
up-holds M site running up = (subst (HoldsWhatRuns M site.log site.surplus site.records) up.up up.ready.holds).held up.contents up.known

-- What a crash leaves of a log on which a site is being opened.
module _ {W : Type 0} (M : LogModel W) (log : W) (contents : Contents) (intact : M.is_intact log) (up : M.is_down log ≡ false) (known : M.contents log ≡ Some contents) where
  pub kept-left : (new : W) → Keeps M log new → (left : Option Contents) → M.left_since new (M.moment log) left → left ≡ Some contents
  kept-left new keeps left since = settled_since M log contents left intact known (keeps.crash (M.moment log) left (omega arith) since) up

  module _ (records : List Record) (spelled : SpellRecords records contents) where
    abbrev Leaves : Option Contents → Type 0
    Leaves left = (found : List Record) × IsBegunOrNot contents found × AreContentsOf found left

    before : (left : Option Contents) → left ≡ Some contents → Leaves left
    before left is = (records, (records, spelled, inl refl), subst (AreContentsOf records) (sym is) spelled)

    kept : (new : W) → Keeps M log new → (left : Option Contents) → M.left_since new (M.moment log) left → Leaves left
    kept new keeps left since = before left (kept-left new keeps left since)

    added : (epoch : ℕ) (content : List ℕ) → SpellsRecord (epoch_begun epoch) content → (left : Option Contents) → IsBeforeOrAfter contents content left → Leaves left
    added epoch content is left (inl was) = before left was
    added epoch content is left (inr has) = (
      records ++ epoch_begun epoch ∷ [],
      (records, spelled, inr (epoch, refl)),
      subst (AreContentsOf (records ++ epoch_begun epoch ∷ [])) (sym has) (spelled-more records contents (epoch_begun epoch) content spelled is),
    )

    pub opening-leaves : (me : ℕ) (catalog : Declared) (opened : Result (SiteState W) (OpenError W)) → Opens M log me catalog opened
        → (left : Option Contents) → M.left_since (log_of opened) (M.moment log) left → Leaves left
    opening-leaves me catalog (Ok site) opens left since = added opens.epoch opens.content opens.content_is left ((opens.log.any_moment contents known).each left since)
    opening-leaves me catalog (Err (Failed after)) (inl reads) left since = kept after reads.log left since
    opening-leaves me catalog (Err (Failed after)) (inr begins) left since =
        added begins.epoch begins.content begins.content_is left ((begins.log.any_moment contents known).each left since)
    opening-leaves me catalog (Err (NotOurs after place)) opens left since = kept after opens.1 left since
    opening-leaves me catalog (Err (BadRecord after index)) opens left since = kept after opens.1 left since
    opening-leaves me catalog (Err (TooManyOutcomes after count)) opens left since = kept after opens.1.log left since
    opening-leaves me catalog (Err (EpochsSpent after)) opens left since = kept after opens.1.log left since
    opening-leaves me catalog (Err (Full after length)) opens left since = kept after opens.1.log left since
    opening-leaves me catalog (Err (NoMemory after)) opens left since = kept after opens.1 left since

module _ {D : Type 0} (M : DiskModel D)
    (openings : (log : Journal D) (me : ℕ) (catalog : Declared) (records : List Record) (site : SiteState (Journal D)) → AreContentsOf records (contents_now M log)
    → Opens (journal_model M) log me catalog (Ok site) → site.records ≡ records ++ epoch_begun site.epoch ∷ [])
    (one : (bytes : List ℕ) → HasOneAnswer (λ contents. IsJournal contents bytes) (IsNotOurs bytes))
    (same : (contents : Contents) (bytes : List ℕ) → (contents_of bytes ≡ Some contents) ↔ IsJournal contents bytes) where
  -- A journal that was opened on a disk with these bytes has their contents.
  opened-contents : (disk : D) (limit : ℕ) (log : Journal D) (held : List ℕ) (contents : Contents) → M.content disk ≡ Some held → contents_of held ≡ Some contents
      → journal.Opens M disk limit (Ok log) → contents_now M log ≡ Some contents
  opened-contents disk limit log held contents holds is opens = ap (option_and_then contents_of) (opens.2 ∙ holds) ∙ is

  -- What is left is a journal of such records, so it is opened as one.
  pub contents-recover : (left : List ℕ) (AreSuch : List Record → Type 0) (records : List Record) → AreSuch records → AreContentsOf records (contents_of left) → Recovers M left AreSuch
  contents-recover left AreSuch records such are =
      let found = spelled-contents records (contents_of left) are in
      let is_journal : IsJournal found.0 left = (same found.0 left).0 found.1 in
      record {
        records = records;
        are_such = such;
        contents = found.0;
        spelled = found.2;
        is_journal = is_journal;
        not_refused = λ disk after limit place holds opens. (one left).not_both found.0 place is_journal (opens.3 left holds);
        goes_on = λ disk limit log me catalog opened holds opens site_opens.
            openings log me catalog records opened
            (subst (AreContentsOf records) (sym (ap (option_and_then contents_of) (opens.2 ∙ holds))) are) site_opens;
        is_readable = λ disk limit log after me index catalog holds opens site_opens.
            no-bad found.0 records index found.2
            (subst (λ (contents : Contents). IsFirstBadContent contents index) (site_opens.2.1 found.0 (opened-contents disk limit log left found.0 holds found.1 opens)) site_opens.2.2);
        is_ours = λ disk limit log after me place catalog holds opens site_opens.
            false≢true (sym site_opens.2 ∙ ap is_some (opened-contents disk limit log left found.0 holds found.1 opens));
      }

  -- So is what a crash leaves while a site is opened on a journal.
  pub opening-recovers : (disk : D) (limit : ℕ) (log : Journal D) (held : List ℕ) (contents : Contents) (records : List Record) (me : ℕ) (catalog : Declared)
      (opened : Result (SiteState (Journal D)) (OpenError (Journal D))) (left : List ℕ) → M.content disk ≡ Some held → IsJournal contents held → SpellRecords records contents
      → journal.Opens M disk limit (Ok log) → Opens (journal_model M) log me catalog opened
      → M.left_since (log_of opened).disk (M.moment log.disk) left → Recovers M left (IsBegunOrNot contents)
  opening-recovers disk limit log held contents records me catalog opened left holds is_journal spelled opens site_opens since =
      let known = opened-contents disk limit log held contents holds ((same contents held).1 is_journal) opens in
      let found =
      opening-leaves (journal_model M) log contents opens.3 opens.4 known records spelled me catalog opened site_opens (contents_of left) (left, since, refl) in
      contents-recover left (IsBegunOrNot contents) found.0 found.1 found.2
