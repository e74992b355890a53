-- A site that goes on from what outlived its memory: in which epoch, and that it is then ready.
use Rattle.std.proofs.Common.{◌≡◌, sym, subst, ap, ◌∙◌, ℕ, ◌+◌, ◌<◌, ◌≤◌, Bool, true, [], ◌∷◌, ◌++◌, Option, Some, None, Ok, Err, arith}
use Rattle.std.specs.Prelude.{All, is_some}
use Rattle.std.proofs.lemmas.Bool.{true≢false}
use Rattle.pv_base.specs.declared.limits.TheConstants.{HELD_NAMES, MAX_SITES, NEVER_GIVEN}
use Rattle.pv_format.specs.Contents.{greatest_epoch}
use Rattle.pv_format.specs.Range.{IsRecordInRange, IsRecordWithin}
use Rattle.pv_format.specs.Record.{Record, epoch_begun}
use Rattle.pv_disk_model.specs.LogModel.{LogModel}
use Rattle.pv_law_step.proofs.EpochLemmas.{epoch-rises}
use Rattle.pv_protocol.specs.Here.{Here}
use Rattle.pv_protocol.specs.Records.{record_bytes}
use Rattle.pv_protocol.specs.Sound.{IsHereInRange, IsSetupInRange}
use Rattle.pv_protocol.specs.Start.{just_started, site_start, starts, too_long, no_epoch}
use Rattle.pv_protocol.specs.State.{Running}
use Rattle.pv_protocol.specs.Width.{IsNarrow}
use Rattle.pv_site.proofs.LogLemmas.{holds-more}
use Rattle.pv_site.proofs.StartLemmas.{starts-full, starts-not, starts-room}
use Rattle.pv_site.specs.OnLog.{HoldsRecords}
use Rattle.pv_site.specs.SiteParts.{AreSound, AreTied, here_of}
use Rattle.pv_site.specs.Recovered.{Remains}
use Rattle.pv_site.specs.Resumes.{CanResume, FailsToResume, HasResumed, advanced_from, here_begun, next_epoch}
use Rattle.pv_site.specs.Room.{Writes}
use Rattle.pv_site.specs.SiteState.{SiteState, setup_of}
use Rattle.pv_site.specs.Steps.{HoldsWhatRuns, IsReady}
use Rattle.pv_site.specs.declared.appending.Written.TheVariants as written
use Rattle.pv_site.specs.declared.error.StepError.TheVariants.{Fault}
use Rattle.pv_site.specs.declared.parts.SiteParts.{SiteParts}

-- The epoch that was recorded is the greatest.
pub advanced-epoch : (left : Remains) → greatest_epoch (advanced_from left).records ≡ next_epoch left.records
advanced-epoch left = epoch-rises left.records (next_epoch left.records) (omega arith)

-- the site that runs over the log, made of these parts
abbrev pub running_on : {W : Type 0} → W → SiteParts → ℕ → Bool → SiteState W
running_on log parts epoch first = record {
  me = parts.me.0;
  catalog = parts.catalog;
  records = parts.store.records;
  running = Some (here_of parts).running;
  epoch = epoch;
  first = first;
  surplus = parts.surplus;
  log = log;
}

module _ {W : Type 0} (M : LogModel W) (old new : W) (left : Remains) (can : CanResume M old left) where
  -- No epoch is left.
  pub has-none : NEVER_GIVEN ≤ next_epoch left.records → site_start (setup_of left.catalog) left.surplus left.records ≡ no_epoch
  has-none most = starts-not (setup_of left.catalog) left.surplus left.records most

  module _ (numbered : next_epoch left.records < NEVER_GIVEN) where
    starts-fitting : M.size old + record_bytes (epoch_begun (next_epoch left.records)) ≤ M.limit old
        → site_start (setup_of left.catalog) left.surplus left.records ≡ starts (just_started (next_epoch left.records)) (epoch_begun (next_epoch left.records))
    starts-fitting fits = starts-room (setup_of left.catalog) left.surplus left.records numbered (omega (arith, fits, can.holds.size, can.limit))

    -- The journal has no room.
    pub has-no-room : (length : ℕ) → Writes M old new (epoch_begun (next_epoch left.records)) (Ok (written.Full length))
        → site_start (setup_of left.catalog) left.surplus left.records ≡ too_long length
    has-no-room length wrote =
        starts-full (setup_of left.catalog) left.surplus left.records numbered length
        (wrote.1 ∙ ap (λ n. n + record_bytes (epoch_begun (next_epoch left.records))) can.holds.size) (subst (λ n. n < length) can.limit wrote.2)

    -- The log failed at the record.
    pub fails-there : Writes M old new (epoch_begun (next_epoch left.records)) (Err Fault) → FailsToResume M old left new
    fails-there wrote = record {
      running = just_started (next_epoch left.records);
      epoch = next_epoch left.records;
      content = wrote.2.0;
      starts = starts-fitting wrote.0;
      content_is = wrote.2.1;
      down = wrote.1;
      log = wrote.2.2;
      calls = wrote.2.3;
    }

    module _ (wrote : Writes M old new (epoch_begun (next_epoch left.records)) (Ok written.Done)) (after : Remains) (same : after ≡ advanced_from left) (parts : SiteParts)
        (here : here_of parts ≡ here_begun after) where
      -- What it has in memory and what its records are.
      begun-next : here_of parts ≡ record {
        me = left.me;
        setup = setup_of left.catalog;
        records = left.records ++ epoch_begun (next_epoch left.records) ∷ [];
        surplus = left.surplus;
        running = just_started (next_epoch left.records);
      }
      begun-next =
          here ∙ ap here_begun same
          ∙ ap (λ (epoch : ℕ). record {
            me = left.me;
            setup = setup_of left.catalog;
            records = left.records ++ epoch_begun (next_epoch left.records) ∷ [];
            surplus = left.surplus;
            running = just_started epoch;
          }) (advanced-epoch left)

      next-is : (epoch : ℕ) → greatest_epoch after.records ≡ epoch → epoch ≡ next_epoch left.records
      next-is epoch last = sym last ∙ (ap (λ (now : Remains). greatest_epoch now.records) same ∙ advanced-epoch left)

      -- The site runs.
      pub has-resumed : (epoch : ℕ) (first : Bool) → greatest_epoch after.records ≡ epoch → HasResumed M old left first (running_on new parts epoch first)
      has-resumed epoch first last = record {
        running = just_started (next_epoch left.records);
        epoch = next_epoch left.records;
        content = wrote.2.0;
        starts = starts-fitting wrote.0;
        site = ap (λ (now : Here). record { me = now.me; catalog = now.setup.catalog; records = now.records; running = Some now.running; epoch = epoch; first = first; surplus = now.surplus; log = new }) begun-next
            ∙ ap (λ (number : ℕ). record {
              me = left.me;
              catalog = left.catalog;
              records = left.records ++ epoch_begun (next_epoch left.records) ∷ [];
              running = Some (just_started (next_epoch left.records));
              epoch = number;
              first = first;
              surplus = left.surplus;
              log = new;
            }) (next-is epoch last);
        content_is = wrote.2.1;
        up = wrote.1;
        log = wrote.2.2;
        calls = wrote.2.3;
      }

      -- It is ready for its first step.
      pub resumed-ready : (epoch : ℕ) (first : Bool) → M.is_intact new → IsReady M (running_on new parts epoch first)
      resumed-ready epoch first still = record {
        intact = still;
        limit = wrote.2.2.limit ∙ (can.limit ∙ sym (ap (λ (now : Here). now.setup.catalog.journal) begun-next));
        holds = subst (λ (now : Here). HoldsRecords M new now.surplus now.records) (sym begun-next)
            (holds-more M old new left.surplus left.records (epoch_begun (next_epoch left.records)) wrote.2.0 wrote.1 wrote.2.2 wrote.2.1 can.holds);
      }

      -- Its parts are sound.
      pub resumed-sound : AreTied parts → IsSetupInRange (setup_of left.catalog) → All IsRecordInRange left.records
          → IsNarrow HELD_NAMES left.catalog left.me left.records
          → ((running : Running) (more : Record) → All (IsRecordWithin MAX_SITES) left.records → IsNarrow HELD_NAMES left.catalog left.me left.records
          → site_start (setup_of left.catalog) left.surplus left.records ≡ starts running more
          → IsHereInRange MAX_SITES (record { me = left.me; setup = setup_of left.catalog; records = left.records ++ more ∷ []; surplus = left.surplus; running = running }))
          → AreSound parts
      resumed-sound tied setup fine narrow law = record {
        tied = tied;
        range = subst (IsHereInRange MAX_SITES) (sym begun-next)
            (law (just_started (next_epoch left.records)) (epoch_begun (next_epoch left.records)) fine narrow (starts-fitting wrote.0));
      }

      -- Its epoch is the greatest of its records.
      pub resumed-recorded : (epoch : ℕ) → greatest_epoch after.records ≡ epoch → greatest_epoch parts.store.records ≡ epoch
      resumed-recorded epoch last = ap (λ (now : Here). greatest_epoch now.records) here ∙ last

module _ {W : Type 0} (M : LogModel W) (site : SiteState W) where
  up-holds : (running : Option Running) → is_some running ≡ true → HoldsWhatRuns M site.log site.surplus site.records running → HoldsRecords M site.log site.surplus site.records
  up-holds None none holds = absurd (true≢false (sym none))
  up-holds (Some running) some holds = holds

  -- A site that is up can go on once it has left.
  pub left-ready : IsReady M site → is_some site.running ≡ true → site.me < site.catalog.sites
      → CanResume M site.log (record { me = site.me; catalog = site.catalog; records = site.records; surplus = site.surplus })
  left-ready ready up here = record { intact = ready.intact; limit = ready.limit; holds = up-holds site.running up ready.holds; site = here }
