-- A site started on an empty disk: what is formatted, opened and read back.
use Rattle.std.proofs.Common.{◌≡◌, inl, inr, ℕ, ◌≤◌, Bool, true, false, List, [], ◌∷◌, length, Option, Some, None, Result, Ok, Err, arith, refl, sym, ap, ap₂, ◌∙◌, subst}
use Rattle.std.specs.Prelude.{is_err, is_some, slice_get, nat_lt, if◌then◌else◌, option_and_then, ◌==◌}
use Rattle.std.proofs.lemmas.Bool.Decides.{nat_tests}
use Rattle.pv_base.specs.Catalog.{Declared}
use Rattle.pv_base.specs.Fault.{Rose}
use Rattle.pv_base.specs.declared.failure.Failed.{Failed as Fault}
use Rattle.pv_base.specs.declared.limits.TheConstants.{MIN_JOURNAL}
use Rattle.pv_ckpt.specs.CkptLog.{contents_now}
use Rattle.pv_ckpt.specs.CkptModel.{ckpt_model, log_bytes}
use Rattle.pv_ckpt.specs.Opening as ckpt
use Rattle.pv_ckpt.specs.Opening.{Formats}
use Rattle.pv_ckpt.specs.declared.ckpt_log.CkptLog.{CkptLog}
use Rattle.pv_ckpt.specs.declared.open_ckpt.OpenCkpt.TheVariants as unopened
use Rattle.pv_disk.specs.declared.disk_error.DiskError.TheVariants as format_error
use Rattle.pv_disk_model.specs.Disk.{Syncs}
use Rattle.pv_disk_model.specs.DiskModel.{DiskModel}
use Rattle.pv_disk_model.specs.Log.{IsBeforeOrAfter, Keeps, MayAdd, StaysUp}
use Rattle.pv_disk_model.specs.LogModel.{LogModel}
use Rattle.pv_disk_model.specs.Size.{Contents, size_of}
use Rattle.pv_format.specs.Contents.{SpellRecords}
use Rattle.pv_format.specs.Record.{Record, epoch_begun}
use Rattle.pv_format.specs.RecordSpelling.{SpellsRecord}
use Rattle.pv_law_calls.proofs.LookLemmas.{still_left}
use Rattle.pv_law_checkpoints.specs.LogContents.{log_contents_of}
use Rattle.pv_law_checkpoints.specs.TwoAreas.{formatted}
use Rattle.pv_law_checkpoints.proofs.OneAnswer.{log_not_none}
use Rattle.pv_law_checkpoints.proofs.WorkedLemmas.{formatted_is}
use Rattle.pv_law_checkpoints.proofs.ContentsLemmas.{log_contents_of-is}
use Rattle.pv_protocol.specs.Records.{journal_bytes}
use Rattle.pv_protocol.specs.Start.{just_started, site_start, starts, too_long}
use Rattle.pv_law_step.proofs.JournalLemmas.{no-records-long}
use Rattle.pv_site.specs.Surplus.{surplus_of}
use Rattle.pv_site.specs.Opens as sites
use Rattle.pv_site.specs.Opens.{HasFailed, HasOpened, log_in}
use Rattle.pv_site.specs.SiteState.{SiteState, setup_of}
use Rattle.pv_site.specs.Steps.{IsReady}
use Rattle.pv_site.specs.declared.error.OpenError.{OpenError}
use Rattle.pv_site.specs.declared.error.OpenError.TheVariants as refused
use Rattle.pv_store.specs.Refusals.{too_many_in}
use Rattle.pv_launch.specs.Starting.{Begins, FindsNothing, HasBegun, HoldsEmptyLog, IsForWhatWasRead, IsFormatted, Prepares, Starts, StaysWithout}
use Rattle.pv_launch.specs.Work.{HasNoWork, StaysIdle}
use Rattle.pv_launch.specs.declared.not_started.NotStarted.{NotStarted}
use Rattle.pv_launch.specs.declared.not_started.NotStarted.TheVariants.{Failed, Misread, NoMemory}
use Rattle.pv_launch.proofs.WorkLemmas.{empty-idle, few-idle, formatted-idle, started-idle}

-- ---- records of which there are none

nothing-spelled : (records : List Record) (contents : Contents) → contents ≡ [] → SpellRecords records contents → records ≡ []
nothing-spelled [] contents is spelled = refl
nothing-spelled (first ∷ records) contents is spelled = absurd (subst (λ (all : Contents). SpellRecords (first ∷ records) all) is spelled)

none-there : (contents : Contents) (n : ℕ) → contents ≡ [] → (content : List ℕ) → slice_get contents n ≡ Some content → ⊥
none-there [] n is content there = let wrong : ⊥ = cc in wrong
none-there (first ∷ contents) n is content there = let wrong : ⊥ = cc in wrong

first-start : (catalog : Declared) → MIN_JOURNAL ≤ catalog.journal → site_start (setup_of catalog) 0 [] ≡ starts (just_started 1) (epoch_begun 1)
unfolding site_start journal_bytes
first-start catalog least = by (nat_lt catalog.journal 19) (grind (arith, nat_tests, least))
  where
    by : (full : Bool) → full ≡ false → (if full then too_long 19 else starts (just_started 1) (epoch_begun 1)) ≡ starts (just_started 1) (epoch_begun 1)
    by false is = refl
    by true is = absurd (let wrong : ⊥ = cc in wrong)

none-too-many : (catalog : Declared) (site : ℕ) → too_many_in catalog site [] ≡ None
unfolding too_many_in
none-too-many catalog site = refl

pub some-of : {A : Type 0} (content : Option A) → is_some content ≡ true → (held : A) × (content ≡ Some held)
some-of None is = absurd (let wrong : ⊥ = cc in wrong)
some-of (Some held) is = (held, refl)

module _ {D : Type 0} (M : DiskModel D) where
  -- ---- formatting

  pub sync-done : (old new : D) (result : Result (Unit {0}) Fault) → false ≡ is_err result → Syncs M {X = Unit {0}} old new result → Syncs M {X = Unit {0}} old new (Ok tt)
  sync-done old new (Ok tt) fine syncs = syncs
  sync-done old new (Err e) fine syncs = absurd (let both : false ≡ true = fine in cc)

  pub sync-failed : (old new : D) (e : Fault) → Syncs M {X = Unit {0}} old new (Err e) → StaysIdle M old new × Rose (M.faults old) (M.faults new)
  sync-failed old new e syncs =
      let now = syncs.observes in (
        record {
          faults = now.fault.0;
          idle = λ empty.
              let there = some-of (M.content new) (now.known ∙ ap (λ (c : Option (List ℕ)). is_some c) empty) in
              (there.0, there.1, inr (still_left M old new (M.may_leave old) now.any_moment there.0 (M.is_left new there.0 there.1)));
        },
        now.fault.1,
      )

  -- What is formatted in vain has too few bytes for a record.
  module _ (old synced new : D) (syncs : Syncs M {X = Unit {0}} old synced (Ok tt)) where
    idle-since : M.faults synced ≤ M.faults new → (M.content synced ≡ Some [] → (bytes : List ℕ) × (M.content new ≡ Some bytes) × HasNoWork bytes) → StaysIdle M old new
    idle-since faults idle = record {
      faults = omega (arith, faults, syncs.observes.fault.0);
      idle = λ empty. let now = idle (syncs.observes.content ∙ empty) in (now.0, now.1, inl now.2);
    }

    pub format-failed : Formats M {X = Unit {0}} synced new (Err format_error.Failed) → StaysIdle M old new × Rose (M.faults old) (M.faults new)
    format-failed formats = (
      idle-since formats.0.faults
          (λ empty.
          let there = some-of (M.content new) (formats.0.known ∙ ap (λ (c : Option (List ℕ)). is_some c) empty) in
          let left = still_left M synced new _ formats.0.any_moment there.0 (M.is_left new there.0 there.1) in
          let none = syncs.durable [] (sym syncs.observes.content ∙ empty) left.0 left.1 in
          (there.0, there.1, few-idle there.0 (omega (arith, left.2.no_longer, ap length none)))),
      subst (λ n. Rose n (M.faults new)) syncs.observes.uncounted formats.1,
    )

    pub format-in-vain : Formats M {X = Unit {0}} synced new (Err format_error.NoMemory) → StaysIdle M old new
    format-in-vain formats =
        idle-since (omega (arith, formats.3)) (λ empty. ([], formats.1 ∙ empty, few-idle [] (omega arith)))

  -- ---- opening

  -- A crash leaves an empty log of it, or less than a log.
  pub open-refused : (old new : D) → M.faults old ≤ M.faults new → (known : is_some (M.content new) ≡ is_some (M.content old))
      → ((left : List ℕ) → M.may_leave new left → M.may_leave old left) → StaysWithout M old new
  open-refused old new faults known leaves = record {
    faults = faults;
    idle = λ empty.
        let there = some-of (M.content new) (known ∙ ap (λ (c : Option (List ℕ)). is_some c) empty.content) in
        let same = empty.durable there.0 (leaves there.0 (M.is_left new there.0 there.1)) in
        (there.0, there.1, subst HasNoWork (sym same) formatted-idle);
  }

  module _ (n : ℕ) (catalog : Declared) (old : D) where
    pub open-failed : (disk : D) → ckpt.Opens M old catalog.journal (Err (unopened.Failed disk)) → Begins M n catalog old (Err (Failed disk))
    open-failed disk opens = (open-refused old disk opens.0.faults opens.0.known (still_left M old disk (M.may_leave old) opens.0.any_moment), opens.2)

    pub open-misread : (disk : D) (place : ℕ) → ckpt.Opens M old catalog.journal (Err (unopened.NotOurs disk place)) → Begins M n catalog old (Err (Misread disk))
    open-misread disk place opens = (
      open-refused old disk opens.0.faults opens.0.known (still_left M old disk (M.may_leave old) opens.0.any_moment),
      record { reads = inl (place, opens); untold = λ empty. log_not_none 8 [] [] formatted place formatted_is.0 (opens.3 formatted empty.content) },
    )

    pub open-in-vain : (disk : D) → ckpt.Opens M old catalog.journal (Err (unopened.NoMemory disk)) → Begins M n catalog old (Err (NoMemory disk))
    open-in-vain disk opens = open-refused old disk opens.0.faults opens.0.known (still_left M old disk (M.may_leave old) opens.0.any_moment)

    -- ---- opening the site
    module _ (log : CkptLog D) (opens : ckpt.Opens M old catalog.journal (Ok log)) where
      abbrev L : LogModel (CkptLog D)
      L = ckpt_model M

      pub empty-log : HoldsEmptyLog M old → contents_now M log ≡ Some []
      empty-log empty =
          ap (λ (c : Option (List ℕ)). option_and_then log_contents_of c) (opens.2 ∙ empty.content)
          ∙ log_contents_of-is [] formatted record { at = 8; packed = []; later = []; log = formatted_is.0; is = refl }

      -- The log holds nothing still, or nothing but the record of the start.
      keeps-idle : (new : CkptLog D) → Keeps L log new → M.faults log.disk ≤ M.faults new.disk → StaysWithout M old new.disk
      keeps-idle new keeps faults = record {
        faults = omega (arith, faults, opens.6);
        idle = λ empty.
            let there = log_bytes (M.content new.disk) [] (keeps.contents ∙ empty-log empty) in
            (there.0, there.1, empty-idle there.0 there.2);
      }

      adds-idle : (new : CkptLog D) (content : List ℕ) (epoch : ℕ) → SpellsRecord (epoch_begun epoch) content → MayAdd L log new content → M.faults log.disk ≤ M.faults new.disk
          → StaysWithout M old new.disk
      adds-idle new content epoch spells adds faults = record {
        faults = omega (arith, faults, opens.6);
        idle = λ empty. by (adds.contents [] (empty-log empty));
      }
        where
          by : IsBeforeOrAfter [] content (contents_now M new) → (bytes : List ℕ) × (M.content new.disk ≡ Some bytes) × HasNoWork bytes
          by (inl before) = let there = log_bytes (M.content new.disk) [] before in (there.0, there.1, empty-idle there.0 there.2)
          by (inr after) =
              let there = log_bytes (M.content new.disk) (content ∷ []) after in
              (there.0, there.1, started-idle there.0 content epoch spells there.2)

      pub site-failed : (new : CkptLog D) → HasFailed L log n catalog new → Begins M n catalog old (Err (Failed new.disk))
      site-failed new (inl fails) =
          (keeps-idle new fails.log fails.down.faults, subst (λ k. Rose k (M.faults new.disk)) opens.6 fails.down.fault)
      site-failed new (inr fails) = (
        adds-idle new fails.content fails.epoch fails.content_is fails.log fails.down.faults,
        subst (λ k. Rose k (M.faults new.disk)) opens.6 fails.down.fault,
      )

      pub site-in-vain : (new : CkptLog D) → StaysUp L log new → Keeps L log new → Begins M n catalog old (Err (NoMemory new.disk))
      site-in-vain new up keeps = keeps-idle new keeps (omega (arith, up.faults))

      module _ (least : MIN_JOURNAL ≤ catalog.journal) where
        -- A log without contents isn't refused for what is read of it.
        untold-by : (why : OpenError (CkptLog D)) → IsForWhatWasRead why → sites.Opens L log n catalog (Err why) → contents_now M log ≡ Some [] → ⊥
        untold-by (refused.Failed new) other is empty = other
        untold-by (refused.NoMemory new) other is empty = other
        untold-by (refused.NotOurs new place) other is empty =
            let some : is_some (contents_now M log) ≡ true = ap (λ (c : Option Contents). is_some c) empty in
            let wrong : ⊥ = let both : false ≡ true = sym is.2 ∙ some in cc in wrong
        untold-by (refused.BadRecord new index) other is empty =
            let there = none-there is.2.0 index (is.2.1 [] empty) is.2.2.content is.2.2.there in
            there
        untold-by (refused.TooManyOutcomes new count) other is empty =
            let read = is.1 in
            let none = nothing-spelled is.0 read.contents (read.read [] empty) read.spelled in
            let many = sym (none-too-many catalog n) ∙ ap (too_many_in catalog n) (sym none) ∙ is.2 in
            let wrong : ⊥ = cc in wrong
        untold-by (refused.EpochsSpent new) other is empty =
            let read = is.1 in
            let none = nothing-spelled is.0 read.contents (read.read [] empty) read.spelled in
            let plain : surplus_of read.contents is.0 ≡ 0 = omega (arith, no-records-long, ap size_of (read.read [] empty), ap journal_bytes none) in
            let spent = sym (first-start catalog least) ∙ ap₂ (λ (surplus : ℕ) (records : List Record). site_start (setup_of catalog) surplus records) (sym plain) (sym none) ∙ is.2.1 in
            let wrong : ⊥ = cc in wrong
        untold-by (refused.Full new size) other is empty =
            let read = is.1 in
            let none = nothing-spelled is.0 read.contents (read.read [] empty) read.spelled in
            let plain : surplus_of read.contents is.0 ≡ 0 = omega (arith, no-records-long, ap size_of (read.read [] empty), ap journal_bytes none) in
            let full = sym (first-start catalog least) ∙ ap₂ (λ (surplus : ℕ) (records : List Record). site_start (setup_of catalog) surplus records) (sym plain) (sym none) ∙ is.2.1 in
            let wrong : ⊥ = cc in wrong

        faults-so : (why : OpenError (CkptLog D)) → IsForWhatWasRead why → sites.Opens L log n catalog (Err why) → M.faults (log_in why).disk ≡ M.faults log.disk
        faults-so (refused.Failed new) other is = absurd other
        faults-so (refused.NoMemory new) other is = absurd other
        faults-so (refused.NotOurs new place) other is = is.0.faults
        faults-so (refused.BadRecord new index) other is = is.0.faults
        faults-so (refused.TooManyOutcomes new count) other is = is.1.up.faults
        faults-so (refused.EpochsSpent new) other is = is.1.up.faults
        faults-so (refused.Full new size) other is = is.1.up.faults

        pub site-misread : (why : OpenError (CkptLog D)) → IsForWhatWasRead why → sites.Opens L log n catalog (Err why) → Begins M n catalog old (Err (Misread (log_in why).disk))
        site-misread why other is = (
          record {
            faults = omega (arith, faults-so why other is, opens.6);
            idle = λ empty. absurd (untold-by why other is (empty-log empty));
          },
          record {
            reads = inr (inl (log, why, opens, is, other, refl));
            untold = λ empty. untold-by why other is (empty-log empty);
          },
        )

      site-found : (site : SiteState (CkptLog D)) → HasOpened L log n catalog site → site.first ≡ false → Begins M n catalog old (Err (Misread site.log.disk))
      site-found site opened found = (
        record {
          faults = omega (arith, opened.up.faults, opens.6);
          idle = λ empty. absurd (untold empty);
        },
        record { reads = inr (inr (log, site, opens, opened, found, refl)); untold = untold },
      )
        where
          untold : HoldsEmptyLog M old → ⊥
          untold empty =
              let none : opened.contents ≡ [] = opened.read [] (empty-log empty) in
              let first : site.first ≡ (length opened.contents == 0) = ap (λ (s : SiteState (CkptLog D)). s.first) opened.site in
              let yes : (length opened.contents == 0) ≡ true = ap (λ (c : Contents). length c == 0) none in
              let both : false ≡ true = sym found ∙ first ∙ yes in
              cc

      pub found-then : (site : SiteState (CkptLog D)) → HasOpened L log n catalog site → IsReady L site → (result : Result (SiteState (CkptLog D)) (NotStarted D))
          → FindsNothing site result → Begins M n catalog old result
      found-then site opened ready (Ok same) (is, first) =
          subst (HasBegun M n catalog old) (sym is) record { log = log; opens = opens; opened = opened; first = first; ready = ready }
      found-then site opened ready (Err (Failed disk)) found = absurd found
      found-then site opened ready (Err (Misread disk)) (found, is) =
          subst (λ (d : D). Begins M n catalog old (Err (Misread d))) (sym is) (site-found site opened found)
      found-then site opened ready (Err (NoMemory disk)) found = absurd found

  -- ---- both
  module _ (n : ℕ) (catalog : Declared) (old made : D) (formatted_so : IsFormatted M old made) where
    holds-empty : M.content old ≡ Some [] → HoldsEmptyLog M made
    holds-empty empty =
        let now = formatted_so.formats.1 [] (formatted_so.syncs.observes.content ∙ empty) in
        record { content = now.0; durable = now.1 }

    same-faults : M.faults made ≡ M.faults old
    same-faults = formatted_so.formats.2 ∙ formatted_so.syncs.observes.uncounted

    pub idle-then : (disk : D) → StaysWithout M made disk → StaysIdle M old disk
    idle-then disk stays = record {
      faults = omega (arith, stays.faults, same-faults);
      idle = λ empty. let now = stays.idle (holds-empty empty) in (now.0, now.1, inl now.2);
    }

    untold-then : ((held : List ℕ) → M.content old ≡ Some held → held ≡ []) → (HoldsEmptyLog M made → ⊥) → M.content old ≡ None
    untold-then empty untold = by (M.content old) refl
      where
        by : (content : Option (List ℕ)) → M.content old ≡ content → content ≡ None
        by None is = refl
        by (Some held) is = absurd (untold (holds-empty (is ∙ ap (λ (h : List ℕ). Some h) (empty held is))))

    pub begun-then : ((held : List ℕ) → M.content old ≡ Some held → held ≡ []) → (result : Result (SiteState (CkptLog D)) (NotStarted D)) → Begins M n catalog made result
        → Starts M n catalog old result
    begun-then empty (Ok site) begins = (made, formatted_so, begins)
    begun-then empty (Err (Failed disk)) begins = (idle-then disk begins.0, subst (λ k. Rose k (M.faults disk)) same-faults begins.1)
    begun-then empty (Err (Misread disk)) begins = (idle-then disk begins.0, (made, formatted_so, begins.1.reads), untold-then empty begins.1.untold)
    begun-then empty (Err (NoMemory disk)) begins = idle-then disk begins

  pub not-prepared : (n : ℕ) (catalog : Declared) (old : D) (why : NotStarted D) → Prepares M old (Err why) → Starts M n catalog old (Err why)
  not-prepared n catalog old (Failed disk) prepares = prepares
  not-prepared n catalog old (Misread disk) prepares = absurd prepares
  not-prepared n catalog old (NoMemory disk) prepares = prepares
