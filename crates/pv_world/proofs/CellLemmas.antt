-- What becomes of a cell in a step and a stop, and what it shows.
use Rattle.std.proofs.Common.{◌≡◌, ◌⊎◌, inl, inr, ℕ, ◌+◌, ℤ, ◌++◌, Bool, true, List, Option, Some, None, Result, Ok, Err, refl, sym, ap, ap₂, subst, ◌∙◌}
use Rattle.std.specs.Prelude.{All, IfOk, is_some, option_to_list}
use Rattle.std.proofs.lemmas.Bool.{true≢false}
use Rattle.std.proofs.lemmas.List.{append-nil}
use Rattle.std.proofs.lemmas.Option.{none-some}
use Rattle.pv_format.specs.Checkpoint.{Standing}
use Rattle.pv_base.proofs.Basics.{Some_inj}
use Rattle.pv_base.specs.Catalog.{Declared}
use Rattle.pv_base.specs.Polyvalue.{Case}
use Rattle.pv_base.specs.declared.txn.TxnId.{TxnId}
use Rattle.pv_disk.specs.MemDisk.{MemState}
use Rattle.pv_disk.specs.MemLaws.{mem_model}
use Rattle.pv_format.specs.Record.{Record}
use Rattle.pv_ckpt.specs.CkptModel.{ckpt_model}
use Rattle.pv_ckpt.specs.declared.ckpt_log.CkptLog.{CkptLog}
use Rattle.pv_law_events.specs.Replays.{CanBeReplayed}
use Rattle.pv_protocol.specs.Arms.{Reached, calls_of, fires, reached, record_left}
use Rattle.pv_protocol.specs.Attempt.{of_step}
use Rattle.pv_protocol.specs.Committed.{holder_of}
use Rattle.pv_protocol.specs.Here.{Here}
use Rattle.pv_protocol.specs.Records.{journal_bytes, longer_journal}
use Rattle.pv_protocol.specs.Report as report
use Rattle.pv_protocol.specs.Report.{reading_at, shown_unless_held}
use Rattle.pv_protocol.specs.Shown.{shown}
use Rattle.pv_protocol.specs.State as model
use Rattle.pv_protocol.specs.State.{Arm, Running}
use Rattle.pv_protocol.specs.Step.{site_step, step_on}
use Rattle.pv_site.specs.Asked.{Shows}
use Rattle.pv_site.specs.Inputs.{IsSpelledFrom}
use Rattle.pv_site.specs.Recovered.{Remains}
use Rattle.pv_site.specs.SiteState.{SiteState, here_with, setup_of}
use Rattle.pv_site.specs.Steps.{Breaks, HoldsWhatRuns, IsReady, HasMade, Steps}
use Rattle.pv_site.specs.declared.error.StepError.TheVariants as step_error
use Rattle.pv_site.specs.declared.input.Shown.TheVariants as answered
use Rattle.pv_site.specs.declared.input.Shown.{Shown}
use Rattle.pv_site.specs.declared.input.Step.{Step}
use Rattle.pv_world.proofs.StepLemmas.{Appends, Rests, step-broken, step-made}
use Rattle.pv_world.specs.Cells.{CanFall, HasFallen, HasStepped, HasStopped, IsDone, IsUpOver, left_by, site_after, site_after_input}
use Rattle.pv_world.specs.Disks.{Spells}
use Rattle.pv_world.specs.Readings.{reading_in}
use Rattle.pv_world.specs.Stands.{IsUp, StandsForSite}
use Rattle.pv_world.specs.declared.cell.Cell.TheVariants.{Up, Down}
use Rattle.pv_world.specs.declared.cell.Cell.{Cell}
use Rattle.pv_world.specs.declared.cell.Stepped.TheVariants as stepped
use Rattle.pv_world.specs.declared.cell.Stepped.{Stepped}

-- A cell that is up.
pub is-up : (catalog : Declared) (n : ℕ) (cell : Cell) (up : SiteState (CkptLog MemState)) (is : model.Site) → cell ≡ Up up → StandsForSite catalog n cell is
    → IsUp catalog n up is
is-up catalog n cell up is same stands = subst (λ (now : Cell). StandsForSite catalog n now is) same stands

module _ (catalog : Declared) (n : ℕ) (old : SiteState (CkptLog MemState)) (is : model.Site) (up : IsUp catalog n old is) where
  -- It isn't down.
  pub not-down : (X : Type 0) → old.running ≡ None → X
  not-down X none = absurd (true≢false (sym up.runs ∙ ap (λ (running : Option Running). is_some running) none))

  here-same : (running : Running) → here_with old running ≡ record { me = n; setup = setup_of catalog; records = is.records; surplus = 0; running = running }
  here-same running =
      λ i. record { me = up.me i; setup = setup_of (up.catalog i); records = up.records i; surplus = up.surplus i; running = running }

  -- What outlives its memory.
  pub old-left : left_by old ≡ record { me = n; catalog = catalog; records = is.records; surplus = 0 }
  old-left = λ i. record { me = up.me i; catalog = up.catalog i; records = up.records i; surplus = up.surplus i }

  -- Its journal is as long as its records make it.
  pub size-known : old.log.length ≡ journal_bytes is.records
  size-known = by old.running up.runs up.ready.holds ∙ ap₂ (λ (surplus : ℕ) (records : List Record). longer_journal surplus records) up.surplus up.records
    where
      by : (running : Option Running) → is_some running ≡ true → HoldsWhatRuns (ckpt_model mem_model) old.log old.surplus old.records running
          → old.log.length ≡ longer_journal old.surplus old.records
      by None none holds = absurd (true≢false (sym none))
      by (Some running) some holds = holds.size

  -- A step.

  module _ (rests : Rests) (appends : Appends) (new : SiteState (CkptLog MemState)) where
    -- The site is there with all that the step makes of it.
    is-done : (answer : Step) (step : model.Step) → HasMade (ckpt_model mem_model) old new answer step → IsReady (ckpt_model mem_model) new
        → IsDone catalog n (Up new) is (of_step n step)
    is-done answer step made ready =
        let (armed, waiting, disk) = step-made rests appends is.records is.standing is.arm old.log new.log up.ready.intact up.disk step.appended made.log in
        record {
          armed = armed;
          waits = waiting;
          stands = record {
            me = ap (λ (site : SiteState (CkptLog MemState)). site.me) made.site ∙ up.me;
            catalog = ap (λ (site : SiteState (CkptLog MemState)). site.catalog) made.site ∙ up.catalog;
            records = ap (λ (site : SiteState (CkptLog MemState)). site.records) made.site
                ∙ ap (λ (records : List Record). records ++ option_to_list step.appended) up.records;
            surplus = ap (λ (site : SiteState (CkptLog MemState)). site.surplus) made.site ∙ up.surplus;
            runs = ap (λ (site : SiteState (CkptLog MemState)). is_some site.running) made.site;
            running = ap (λ (site : SiteState (CkptLog MemState)). site.running) made.site;
            ready = ready;
            disk = disk;
          };
        }

    -- The site has made the step of the definition.
    pub has-stepped : (input : model.Input) (answer : Step) → Steps (ckpt_model mem_model) old new old.running input (Ok answer)
        → IsReady (ckpt_model mem_model) new → All (IsSpelledFrom old.me) answer.sends.items
        → HasStepped catalog n (Up old) (Up new) is is.running input (stepped.Made answer)
    has-stepped input answer steps ready spelled = by old.running refl steps
      where
        by : (was : Option Running) → old.running ≡ was → Steps (ckpt_model mem_model) old new was input (Ok answer)
            → HasStepped catalog n (Up old) (Up new) is is.running input (stepped.Made answer)
        by None none made = not-down _ none
        by (Some running) at made =
            let made_so : HasMade (ckpt_model mem_model) old new answer (site_step (setup_of catalog) n is.records running input) =
            subst (λ (here : Here). HasMade (ckpt_model mem_model) old new answer (step_on here input)) (here-same running) made in
            subst (λ (now : Option Running). HasStepped catalog n (Up old) (Up new) is now input (stepped.Made answer)) (sym at ∙ up.running) (
              made_so.answered,
              subst (λ (me : ℕ). All (IsSpelledFrom me) answer.sends.items) up.me spelled,
              is-done answer (site_step (setup_of catalog) n is.records running input) made_so ready,
            )

    -- What its disk holds where the step is broken off: a fault has fired, or all is as it was.
    abbrev BreaksOff : model.Step → Type 0
    BreaksOff step =
        ((fired : Arm) × (reached (calls_of (of_step n step)) is.arm ≡ fires fired)
        × Spells (is.records ++ option_to_list (record_left 0 step.appended fired)) is.standing None (Some fired.stops) new.log.disk)
        ⊎ Spells is.records is.standing is.arm None new.log.disk

    breaks-off : (running : Running) (input : model.Input) → Breaks (ckpt_model mem_model) old new (step_on (here_with old running) input)
        → BreaksOff (site_step (setup_of catalog) n is.records running input)
    breaks-off running input breaks =
        let broken : Breaks (ckpt_model mem_model) old new (site_step (setup_of catalog) n is.records running input) =
        subst (λ (here : Here). Breaks (ckpt_model mem_model) old new (step_on here input)) (here-same running) breaks in
        step-broken rests appends is.records is.standing is.arm old.log new.log up.ready.intact up.disk (site_step (setup_of catalog) n is.records running input) broken.log

    -- Its memory is outlived by what was there before the step.
    left-is : (running : Running) (input : model.Input) → Breaks (ckpt_model mem_model) old new (step_on (here_with old running) input)
        → record { me = n; catalog = catalog; records = is.records; surplus = 0 } ≡ left_by new
    left-is running input breaks = sym (ap (λ (site : SiteState (CkptLog MemState)). left_by site) breaks.site ∙ old-left)

    -- With its disk.
    up-over : (running : Running) (input : model.Input) → Breaks (ckpt_model mem_model) old new (step_on (here_with old running) input)
        → (added : Option Record) (armed : Option Arm) (fired : Option Bool) → Spells (is.records ++ option_to_list added) is.standing armed fired new.log.disk
        → IsUpOver (record { me = n; catalog = catalog; records = is.records; surplus = 0 }) added is.standing armed fired (Up new)
    up-over running input breaks added armed fired disk = (left-is running input breaks, disk)

    -- Nothing more is on the disk.
    none-more : Spells is.records is.standing is.arm None new.log.disk → Spells (is.records ++ option_to_list None) is.standing is.arm None new.log.disk
    none-more disk = subst (λ (all : List Record). Spells all is.standing is.arm None new.log.disk) (sym (append-nil is.records)) disk

    -- It can be taken from memory.
    pub can-fall : (input : model.Input) (length : ℕ) → length ≡ old.log.length → Steps (ckpt_model mem_model) old new old.running input (Err step_error.Fault)
        → CanBeReplayed (setup_of catalog) n is.records → CanBeReplayed (setup_of catalog) n (site_after_input catalog n is is.running input).records
        → CanFall length (Up new)
    can-fall input length asked steps replayable after = by old.running refl steps
      where
        from : (running : Running) → Breaks (ckpt_model mem_model) old new (step_on (here_with old running) input)
            → CanBeReplayed (setup_of catalog) n (site_after_input catalog n is (Some running) input).records
            → BreaksOff (site_step (setup_of catalog) n is.records running input) → CanFall length (Up new)
        from running breaks then (inl (fired, reaches, disk)) = record {
          left = record { me = n; catalog = catalog; records = is.records; surplus = 0 };
          added = record_left 0 (site_step (setup_of catalog) n is.records running input).appended fired;
          standing = is.standing;
          armed = None;
          fired = Some fired.stops;
          over = up-over running input breaks (record_left 0 (site_step (setup_of catalog) n is.records running input).appended fired) None (Some fired.stops) disk;
          size = asked ∙ size-known;
          replayable = subst (λ (r : Reached). CanBeReplayed (setup_of catalog) n (site_after is (of_step n (site_step (setup_of catalog) n is.records running input)) r).records) reaches then;
          surplus = refl;
        }
        from running breaks then (inr disk) = record {
          left = record { me = n; catalog = catalog; records = is.records; surplus = 0 };
          added = None;
          standing = is.standing;
          armed = is.arm;
          fired = None;
          over = up-over running input breaks None is.arm None (none-more disk);
          size = asked ∙ size-known;
          replayable = subst (CanBeReplayed (setup_of catalog) n) (sym (append-nil is.records)) replayable;
          surplus = refl;
        }

        by : (was : Option Running) → old.running ≡ was → Steps (ckpt_model mem_model) old new was input (Err step_error.Fault) → CanFall length (Up new)
        by None none broke = not-down _ none
        by (Some running) at broke =
            from running broke
            (subst (λ (now : Option Running). CanBeReplayed (setup_of catalog) n (site_after_input catalog n is now input).records) (sym up.running ∙ at) after)
            (breaks-off running input broke)

    -- Once it is, the step is broken off.
    pub has-broken : (input : model.Input) (cell : Cell) (stops : Bool) → Steps (ckpt_model mem_model) old new old.running input (Err step_error.Fault)
        → ((left : Remains) (added : Option Record) (standing : Standing) (armed : Option Arm) (fired : Option Bool) → IsUpOver left added standing armed fired (Up new)
        → HasFallen left added standing fired cell stops)
        → HasStepped catalog n (Up old) cell is is.running input (stepped.Broke stops)
    has-broken input cell stops steps fell = by old.running refl steps
      where
        left : Remains
        left = record { me = n; catalog = catalog; records = is.records; surplus = 0 }

        from : (running : Running) → Breaks (ckpt_model mem_model) old new (step_on (here_with old running) input)
            → BreaksOff (site_step (setup_of catalog) n is.records running input) → HasStepped catalog n (Up old) cell is (Some running) input (stepped.Broke stops)
        from running breaks (inl (fired, reaches, disk)) =
            let added = record_left 0 (site_step (setup_of catalog) n is.records running input).appended fired in
            let fallen = fell left added is.standing None (Some fired.stops) (up-over running input breaks added None (Some fired.stops) disk) in
            record { arm = fired; fires = reaches; kind = Some_inj fallen.kind; stands = fallen.stands }
        from running breaks (inr disk) =
            absurd (none-some stops (fell left None is.standing is.arm None (up-over running input breaks None is.arm None (none-more disk))).kind)

        by : (was : Option Running) → old.running ≡ was → Steps (ckpt_model mem_model) old new was input (Err step_error.Fault)
            → HasStepped catalog n (Up old) cell is is.running input (stepped.Broke stops)
        by None none broke = not-down _ none
        by (Some running) at broke =
            subst (λ (now : Option Running). HasStepped catalog n (Up old) cell is now input (stepped.Broke stops)) (sym at ∙ up.running)
            (from running broke (breaks-off running input broke))

  -- It isn't answered that the site is down.
  pub not-down-now : (new : SiteState (CkptLog MemState)) (input : model.Input) → Steps (ckpt_model mem_model) old new old.running input (Err step_error.Down) → ⊥
  not-down-now new input steps = by old.running refl steps
    where
      by : (was : Option Running) → old.running ≡ was → Steps (ckpt_model mem_model) old new was input (Err step_error.Down) → ⊥
      by None none made = not-down _ none
      by (Some running) some made = made

  -- A stop.

  -- It has stopped.
  pub has-stopped : (disk : MemState) (left : Remains) → disk ≡ old.log.disk → left ≡ record { me = old.me; catalog = old.catalog; records = old.records; surplus = old.surplus }
      → HasStopped catalog n (Up old) (Down disk left) is is.running true
  has-stopped disk left same leaves = by old.running refl
    where
      by : (was : Option Running) → old.running ≡ was → HasStopped catalog n (Up old) (Down disk left) is is.running true
      by None none = not-down _ none
      by (Some running) some =
          subst (λ (now : Option Running). HasStopped catalog n (Up old) (Down disk left) is now true) (sym some ∙ up.running) (
            refl,
            record {
              me = ap (λ (was : Remains). was.me) leaves ∙ up.me;
              catalog = ap (λ (was : Remains). was.catalog) leaves ∙ up.catalog;
              records = ap (λ (was : Remains). was.records) leaves ∙ up.records;
              surplus = ap (λ (was : Remains). was.surplus) leaves ∙ up.surplus;
              down = refl;
              disk = subst (Spells is.records is.standing is.arm None) (sym same) up.disk;
            },
          )

-- What is read.

module _ (catalog : Declared) (n : ℕ) (up : SiteState (CkptLog MemState)) (is : model.Site) (stands : IsUp catalog n up is) where
  -- A site that is up shows its item as the definitions read it.
  pub reads-up : (item : ℕ) (result : Shown) → Shows up up.running item result → reading_in n result ≡ reading_at n is.running item (shown catalog is.records item)
  reads-up item result shows = by up.running refl shows
    where
      with_running : (running : Running) → up.running ≡ Some running
          → reading_in n result ≡ shown_unless_held (holder_of running.grants item) (shown up.catalog up.records item)
          → reading_in n result ≡ reading_at n is.running item (shown catalog is.records item)
      with_running running at same =
          subst (λ (now : Option Running). reading_in n result ≡ reading_at n now item (shown catalog is.records item)) (sym at ∙ stands.running)
          (same ∙ (ap (λ (declared : Declared). shown_unless_held (holder_of running.grants item) (shown declared up.records item)) stands.catalog
          ∙ ap (λ (records : List Record). shown_unless_held (holder_of running.grants item) (shown catalog records item)) stands.records))

      shown-as : (running : Running) (answer : Shown) → Shows up (Some running) item answer
          → reading_in n answer ≡ shown_unless_held (holder_of running.grants item) (shown up.catalog up.records item)
      shown-as running answered.Down none = absurd (none-some running (sym none))
      shown-as running (answered.Locked txn) held = ap (λ (holder : Option TxnId). shown_unless_held holder (shown up.catalog up.records item)) (sym held)
      shown-as running (answered.Cases value) is_shown =
          ap (λ (cases : List (Case ℤ)). report.cases cases) is_shown.1
          ∙ ap (λ (holder : Option TxnId). shown_unless_held holder (shown up.catalog up.records item)) (sym is_shown.0)

      by : (was : Option Running) → up.running ≡ was → Shows up was item result → reading_in n result ≡ reading_at n is.running item (shown catalog is.records item)
      by None none shows_none = absurd (true≢false (sym stands.runs ∙ ap (λ (running : Option Running). is_some running) none))
      by (Some running) some shows_some = with_running running some (shown-as running result shows_some)
