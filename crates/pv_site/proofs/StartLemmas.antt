-- When a site starts, and what it then makes of a log that was read.
use Rattle.std.proofs.Common.{◌≡◌, inl, inr, refl, sym, subst, ap, ◌∙◌, ℕ, ◌+◌, ◌<◌, ◌≤◌, Bool, true, false, List, [], ◌∷◌, ◌++◌, Some, None, Err, arith}
use Rattle.std.specs.Prelude.{length, nat_le, nat_lt, ◌==◌, if◌then◌else◌}
use Rattle.std.proofs.lemmas.Bool.{lt-ltb, le-ltb, le-leb, lt-leb}
use Rattle.pv_base.specs.Catalog.{Declared}
use Rattle.pv_base.specs.declared.limits.TheConstants.{NEVER_GIVEN}
use Rattle.pv_format.specs.Contents.{SpellRecords, greatest_epoch}
use Rattle.pv_format.specs.Record.{Record, epoch_begun}
use Rattle.pv_disk_model.specs.Calls.{read_all}
use Rattle.pv_disk_model.specs.Log.{Keeps, StaysUp}
use Rattle.pv_disk_model.specs.LogModel.{LogModel}
use Rattle.pv_disk_model.proofs.LogLemmas.{Keeps-Adds, Keeps-MayAdd, Keeps-trans, StaysUp-GoesDown, StaysUp-trans}
use Rattle.pv_law_step.proofs.JournalLemmas.{longer-sum}
use Rattle.pv_protocol.specs.Records.{record_bytes, longer_journal}
use Rattle.pv_protocol.specs.Start.{just_started, site_start, starting, starts, too_long, no_epoch}
use Rattle.pv_protocol.specs.State.{Setup}
use Rattle.pv_site.proofs.OpenLemmas.{journal-least}
use Rattle.pv_site.specs.OnLog.{HoldsRecords}
use Rattle.pv_site.specs.Opens.{HasOpened, Opens, ReadsPast, ReadsRecords, refused_with, unopened}
use Rattle.pv_site.specs.Resumes.{CanResume, HasResumed, Resumes}
use Rattle.pv_site.specs.SiteState.{SiteState}
use Rattle.pv_site.specs.Surplus.{surplus_of}
use Rattle.pv_site.specs.declared.error.ResumeError.{ResumeError}
use Rattle.pv_site.specs.declared.error.ResumeError.TheVariants as resume
use Rattle.pv_site.specs.declared.opening.Refusal.{Refusal}
use Rattle.pv_site.specs.declared.opening.Refusal.TheVariants as refusal
use Rattle.pv_store.specs.Refusals.{too_many_in}

module _ (setup : Setup) (surplus : ℕ) (records : List Record) where
  spent-by : (b : Bool) → nat_le NEVER_GIVEN (greatest_epoch records + 1) ≡ b → b ≡ true
      → (if b then no_epoch else starting setup surplus records (greatest_epoch records + 1)) ≡ no_epoch
  spent-by true at is = refl
  spent-by false at is = absurd (let wrong : ⊥ = cc in wrong)

  -- No epoch is left.
  pub starts-not : NEVER_GIVEN ≤ greatest_epoch records + 1 → site_start setup surplus records ≡ no_epoch
  unfolding site_start
  starts-not most = spent-by (nat_le NEVER_GIVEN (greatest_epoch records + 1)) refl (le-leb NEVER_GIVEN (greatest_epoch records + 1) most)

  more-by : (b : Bool) → nat_le NEVER_GIVEN (greatest_epoch records + 1) ≡ b → b ≡ false
      → (if b then no_epoch else starting setup surplus records (greatest_epoch records + 1)) ≡ starting setup surplus records (greatest_epoch records + 1)
  more-by false at is = refl
  more-by true at is = absurd (let wrong : ⊥ = cc in wrong)

  starts-next : greatest_epoch records + 1 < NEVER_GIVEN → site_start setup surplus records ≡ starting setup surplus records (greatest_epoch records + 1)
  unfolding site_start
  starts-next less = more-by (nat_le NEVER_GIVEN (greatest_epoch records + 1)) refl (lt-leb NEVER_GIVEN (greatest_epoch records + 1) less)

  full-by : (epoch : ℕ) (b : Bool) → b ≡ true → (if b then too_long (longer_journal surplus records + record_bytes (epoch_begun epoch)) else starts (just_started epoch) (epoch_begun epoch))
      ≡ too_long (longer_journal surplus records + record_bytes (epoch_begun epoch))
  full-by epoch true is = refl
  full-by epoch false is = absurd (let wrong : ⊥ = cc in wrong)

  fits-by : (epoch : ℕ) (b : Bool) → b ≡ false → (if b then too_long (longer_journal surplus records + record_bytes (epoch_begun epoch)) else starts (just_started epoch) (epoch_begun epoch))
      ≡ starts (just_started epoch) (epoch_begun epoch)
  fits-by epoch false is = refl
  fits-by epoch true is = absurd (let wrong : ⊥ = cc in wrong)

  -- The journal has no room, or it has.
  pub starts-full : greatest_epoch records + 1 < NEVER_GIVEN → (length : ℕ) → length ≡ longer_journal surplus records + record_bytes (epoch_begun (greatest_epoch records + 1))
      → setup.catalog.journal < length → site_start setup surplus records ≡ too_long length
  starts-full less length is longer =
      starts-next less
      ∙ (full-by (greatest_epoch records + 1) (nat_lt setup.catalog.journal (longer_journal surplus records + record_bytes (epoch_begun (greatest_epoch records + 1))))
      (lt-ltb setup.catalog.journal (longer_journal surplus records + record_bytes (epoch_begun (greatest_epoch records + 1))) (subst (λ (n : ℕ). setup.catalog.journal < n) is longer))
      ∙ ap too_long (sym is))

  pub starts-room : greatest_epoch records + 1 < NEVER_GIVEN → longer_journal surplus records + record_bytes (epoch_begun (greatest_epoch records + 1)) ≤ setup.catalog.journal
      → site_start setup surplus records ≡ starts (just_started (greatest_epoch records + 1)) (epoch_begun (greatest_epoch records + 1))
  starts-room less room =
      starts-next less
      ∙ fits-by (greatest_epoch records + 1) (nat_lt setup.catalog.journal (longer_journal surplus records + record_bytes (epoch_begun (greatest_epoch records + 1))))
      (le-ltb setup.catalog.journal (longer_journal surplus records + record_bytes (epoch_begun (greatest_epoch records + 1))) room)

module _ {W : Type 0} (M : LogModel W) (old mid new : W) (me : ℕ) (catalog : Declared) (intact : M.is_intact old) (up : M.is_down old ≡ false) where
  -- The records couldn't be read.
  pub unread : (reason : Refusal) → ReadsPast M old new (Err reason) → Opens M old me catalog (Err (refused_with new reason))
  unread refusal.Failed read = inl (record { down = read.0; log = read.1; call = read.2 })
  unread (refusal.Full length) read = absurd read
  unread refusal.EpochsSpent read = absurd read
  unread (refusal.BadRecord index) read = read
  unread (refusal.TooManyOutcomes count) read = absurd read
  unread (refusal.NotOurs place) read = read
  unread refusal.NoMemory read = (read.0, read.1, record { mid = new; ok = read.2.0; read = read.2.1; room = inl refl })

  module _ (records : List Record) (reads : ReadsRecords M old mid records) where
    mid-size : M.size mid ≡ longer_journal (surplus_of reads.contents records) records
    mid-size = omega (arith, reads.log.size, reads.size, journal-least records reads.contents reads.spelled, longer-sum (surplus_of reads.contents records) records)

    held : HoldsRecords M mid (surplus_of reads.contents records) records
    held = record {
      up = reads.up.is_up;
      size = mid-size;
      held = λ contents is. subst (SpellRecords records) (reads.read contents (sym reads.log.contents ∙ is)) reads.spelled;
    }

    -- It was read also where the log is given another name.
    reads-there : (log : W) → log ≡ mid → ReadsRecords M old log records
    reads-there log same = record {
      contents = reads.contents;
      read = reads.read;
      size = reads.size;
      spelled = reads.spelled;
      up = subst (StaysUp M old) (sym same) reads.up;
      log = subst (Keeps M old) (sym same) reads.log;
      call = subst (M.goes old read_all true) (sym same) reads.call;
    }

    -- A site goes on from what was read.
    pub can-resume : M.is_intact mid → M.limit old ≡ catalog.journal → me < catalog.sites → CanResume M mid (record { me = me; catalog = catalog; records = records; surplus = surplus_of reads.contents records })
    can-resume still limit here = record { intact = still; limit = reads.log.limit ∙ limit; holds = held; site = here }

    module _ (narrow : too_many_in catalog me records ≡ None) where
      -- Where it does, it is opened.
      pub opened : (first : Bool) → first ≡ (length reads.contents == 0) → (site : SiteState W)
          → HasResumed M mid (record { me = me; catalog = catalog; records = records; surplus = surplus_of reads.contents records }) first site → HasOpened M old me catalog site
      opened first is site goes = record {
        contents = reads.contents;
        records = records;
        running = goes.running;
        epoch = goes.epoch;
        content = goes.content;
        read = reads.read;
        size = reads.size;
        spelled = reads.spelled;
        narrow = narrow;
        starts = goes.starts;
        site = goes.site
            ∙ ap (λ (empty : Bool). record { me = me; catalog = catalog; records = records ++ epoch_begun goes.epoch ∷ []; running = Some goes.running; epoch = goes.epoch; first = empty; surplus = surplus_of reads.contents records; log = site.log }) is;
        content_is = goes.content_is;
        up = StaysUp-trans M old mid site.log reads.up goes.up;
        log = Keeps-Adds M old mid site.log intact up reads.log goes.content goes.log;
        calls = inr (mid, reads.call, goes.calls);
      }

      -- And where it doesn't, it isn't.
      pub unopened-as : (first : Bool) (error : ResumeError W) → Resumes M mid (record { me = me; catalog = catalog; records = records; surplus = surplus_of reads.contents records }) first (Err error)
          → Opens M old me catalog (Err (unopened error))
      unfolding reads-there
      unopened-as first (resume.Failed log left) (same, fails) = inr (record {
        contents = reads.contents;
        records = records;
        running = fails.running;
        epoch = fails.epoch;
        content = fails.content;
        read = reads.read;
        size = reads.size;
        spelled = reads.spelled;
        narrow = narrow;
        starts = fails.starts;
        content_is = fails.content_is;
        down = StaysUp-GoesDown M old mid log reads.up fails.down;
        log = Keeps-MayAdd M old mid log intact up reads.log fails.content fails.log;
        mid = mid;
        kept = reads.log;
        reading = reads.call;
        calls = fails.calls;
      })
      unopened-as first (resume.Full log left length) refused = (records, reads-there log refused.0, (narrow, refused.2))
      unopened-as first (resume.EpochsSpent log left) refused = (records, reads-there log refused.0, (narrow, refused.2))
      unopened-as first (resume.NoMemory log left) stays = (
        StaysUp-trans M old mid log reads.up stays.1,
        Keeps-trans M old mid log reads.log stays.2,
        record { mid = mid; ok = true; read = reads.call; room = stays.3 },
      )
