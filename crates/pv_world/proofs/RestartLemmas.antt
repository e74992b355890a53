-- What comes of a start of a site that is down, on a disk that holds its records: the site runs, or is refused, or the start is broken off.
use Rattle.std.proofs.Common.{◌≡◌, ◌⊎◌, inl, inr, ℕ, ◌+◌, ◌-◌, ◌^◌, ◌≤◌, Bool, true, false, List, [], ◌∷◌, ◌++◌, Option, Some, None, ◌<◌, Result, Ok, Err, refl, sym, ap, subst, ◌∙◌}
use Rattle.std.specs.Prelude.{IfOk, if◌then◌else◌, is_some, length, nat_le, nat_lt, option_to_list}
use Rattle.std.specs.Option.{option_map}
use Rattle.std.proofs.lemmas.Bool.{true≢false}
use Rattle.std.proofs.lemmas.List.{append-nil}
use Rattle.std.proofs.lemmas.Option.{none-some}
use Rattle.pv_format.specs.Checkpoint.{Standing}
use Rattle.pv_base.proofs.Basics.{Some_inj}
use Rattle.pv_base.specs.Catalog.{Declared}
use Rattle.pv_base.specs.declared.failure.NoMemory.{NoMemory}
use Rattle.pv_base.specs.declared.limits.TheConstants.{NEVER_GIVEN}
use Rattle.pv_disk.specs.MemDisk.{MemGoes, MemState}
use Rattle.pv_disk.specs.MemLaws.{mem_model}
use Rattle.pv_disk.specs.declared.arms.Arm as disk
use Rattle.pv_format.specs.Contents.{AreWritten, SpellRecords, greatest_epoch}
use Rattle.pv_format.specs.Record.{Record, epoch_begun}
use Rattle.pv_format.specs.RecordSpelling.{SpellsRecord}
use Rattle.pv_ckpt.specs.Armed.{AppendsArmed, Holds, HoldsUp, SyncsArmed, PacksArmed}
use Rattle.pv_ckpt.specs.Checkpointing.{CheckpointMakes}
use Rattle.pv_journal.specs.Armed.{contents_left}
use Rattle.pv_ckpt.specs.CkptLog.{IsIntact, LogGoes, contents_now}
use Rattle.pv_ckpt.specs.CkptModel.{ckpt_model}
use Rattle.pv_ckpt.specs.Opening as opening
use Rattle.pv_ckpt.specs.declared.ckpt_log.CkptLog.{CkptLog}
use Rattle.pv_ckpt.specs.declared.open_ckpt.OpenCkpt.TheVariants as unopened
use Rattle.pv_disk_model.specs.Calls.{Makes, OnlyReads, read_all, reserve, append}
use Rattle.pv_disk_model.specs.Size.{Contents, size_of}
use Rattle.pv_law_events.specs.Replays.{CanBeReplayed}
use Rattle.pv_protocol.specs.Arms.{Reached, calls_of, fires, reached, record_left, standing_left}
use Rattle.pv_protocol.specs.Attempt.{Attempt, of_start, refused_start}
use Rattle.pv_protocol.specs.Lines as protocol
use Rattle.pv_protocol.specs.Records.{journal_bytes, record_bytes, longer_journal}
use Rattle.pv_protocol.specs.Start.{Started, just_started, site_start, starts, too_long, no_epoch}
use Rattle.pv_protocol.specs.State as model
use Rattle.pv_protocol.specs.State.{Arm, Running, Setup}
use Rattle.pv_site.specs.OnLog.{HoldsRecords}
use Rattle.pv_site.specs.Recovered.{Remains}
use Rattle.pv_site.specs.Resumes.{CanResume, FailsToResume, HasResumed, Resumes}
use Rattle.pv_site.specs.SiteState.{SiteState, setup_of}
use Rattle.pv_site.specs.Steps.{IsReady}
use Rattle.pv_site.specs.declared.error.ResumeError.TheVariants as refused
use Rattle.pv_world.proofs.RestartArms.{FiresLate, comes-fired, comes-through, fires-early, fires-late, fires-within, later_by, waits-both}
use Rattle.pv_law_format.proofs.ReplayLemmas.{written-more, written-read}
use Rattle.pv_world.proofs.RestartDisks.{holds-contents, spell-left}
use Rattle.pv_world.specs.Cells.{CanBeRead, CanStart, HasBegun, HasStarted, IsDone, KeepsRecords, broken_site, site_after, site_after_start, start_attempt}
use Rattle.pv_world.specs.Disks.{Spells, armed_as}
use Rattle.pv_world.specs.Restarts.{IsSynced}
use Rattle.pv_world.specs.Stands.{IsDown, StandsForSite}
use Rattle.pv_world.specs.declared.cell.Cell.TheVariants.{Down, Up}
use Rattle.pv_world.specs.declared.cell.Cell.{Cell}
use Rattle.pv_world.specs.declared.cell.Start.TheVariants as start
use Rattle.pv_world.specs.declared.cell.Start.{Start}

-- A start leaves it as it is how the log stands.
start-leaves : (n : ℕ) (started : Started) (fault : Arm) (standing : Standing) → standing_left (of_start n started).packs fault standing ≡ standing
start-leaves n (starts running epoch) fault standing = refl
start-leaves n (too_long length) fault standing = refl
start-leaves n no_epoch fault standing = refl

-- What is true of logs on disks in memory.
abbrev pub Laws : Type 0
Laws = record {
  looks : (old new : MemState) → OnlyReads MemGoes old new → old.arms.fail_read ≡ None → new ≡ old;
  intact : (contents : Contents) (standing : Standing) (armed : Option disk.Arm) (journal : CkptLog MemState) → IsIntact mem_model journal → journal.down ≡ false
      → Holds contents standing armed None journal.disk → HoldsUp contents standing armed journal;
  numbers : (contents : Contents) (standing : Standing) (armed : Option disk.Arm) (journal : CkptLog MemState) → HoldsUp contents standing armed journal
      → journal.root.number ≡ standing.number;
  reads : (contents : Contents) (standing : Standing) (armed : Option disk.Arm) (old new : CkptLog MemState) (ok : Bool) → HoldsUp contents standing armed old
      → LogGoes mem_model old read_all ok new → Holds contents standing armed None new.disk × (ok ≡ true → HoldsUp contents standing armed new);
  appends : (contents : Contents) (standing : Standing) (armed : Option disk.Arm) (old new : CkptLog MemState) (content : List ℕ) (ok : Bool) → HoldsUp contents standing armed old
      → Makes (LogGoes mem_model) old (reserve (length content) ∷ append content ∷ []) ok new
      → AppendsArmed contents standing content armed ok new.disk ⊎ ((ok ≡ false) × Holds contents standing armed None new.disk);
  packs : (contents : Contents) (standing : Standing) (armed : Option disk.Arm) (old new : CkptLog MemState) (ok : Bool) → IsIntact mem_model old
      → HoldsUp contents standing armed old → old.length ≤ old.limit → old.root.number < 2 ^ 64 - 1 → CheckpointMakes mem_model old new ok
      → PacksArmed contents standing armed ok new.disk ⊎ ((ok ≡ false) × Holds contents standing armed None new.disk);
  opens : (contents : Contents) (standing : Standing) (armed : Option disk.Arm) (old : MemState) (limit : ℕ) (journal : CkptLog MemState) → Holds contents standing armed None old
      → opening.Opens mem_model old limit (Ok journal) → SyncsArmed contents standing armed true journal.disk;
  fails : (contents : Contents) (standing : Standing) (armed : Option disk.Arm) (old : MemState) (limit : ℕ) (new : MemState) → Holds contents standing armed None old
      → opening.Opens mem_model old limit (Err (unopened.Failed new)) → SyncsArmed contents standing armed false new ⊎ SyncsArmed contents standing armed true new;
  ours : (contents : Contents) (standing : Standing) (armed : Option disk.Arm) (old : MemState) (limit : ℕ) (new : MemState) (place : ℕ) → Holds contents standing armed None old
      → opening.Opens mem_model old limit (Err (unopened.NotOurs new place)) → ⊥;
}

-- A log with contents that are records as they are written is as long as these make it.
abbrev pub Sizes : Type 0
Sizes = (records : List Record) (contents : Contents) → AreWritten records contents → size_of contents ≡ journal_bytes records

-- What outlived the memory of the site, as one record.
pub keeps-is : (catalog : Declared) (n : ℕ) (records : List Record) (left : Remains) → KeepsRecords catalog n records left
    → left ≡ record { me = n; catalog = catalog; records = records; surplus = 0 }
keeps-is catalog n records left keeps = λ i. record { me = keeps.site i; catalog = keeps.catalog i; records = keeps.records i; surplus = keeps.surplus i }

-- Where a start fails.

module _ (catalog : Declared) (n : ℕ) (is : model.Site) where
  -- One of its writes and syncs fired, and the disk holds what that left.
  pub record HasFired (on : MemState) : Type 0 where
    pub fault : Arm
    pub fires : reached (calls_of (start_attempt catalog n is)) is.arm ≡ fires fault
    pub disk : Spells (broken_site is (start_attempt catalog n is) fault).records is.standing None (Some fault.stops) on

  -- Or something else failed, and the disk holds what it held.
  abbrev pub StartFails : MemState → Type 0
  StartFails on = HasFired on ⊎ ((armed : Option Arm) × Spells is.records is.standing armed None on)

  -- Nothing more is on the disk.
  none-more : (armed : Option Arm) (on : MemState) → Spells is.records is.standing armed None on → Spells (is.records ++ option_to_list None) is.standing armed None on
  none-more armed on spells = subst (λ (all : List Record). Spells all is.standing armed None on) (sym (append-nil is.records)) spells

  -- The site can read its records then.
  pub can-be-read : (left : Remains) (on : MemState) → KeepsRecords catalog n is.records left → StartFails on → CanBeReplayed (setup_of catalog) n is.records
      → CanBeReplayed (setup_of catalog) n (site_after_start catalog n is None).records → (armed : Option Arm) × (fired : Option Bool) × CanBeRead left armed fired on
  can-be-read left on keeps fails replayable after =
      subst (λ (now : Remains). (armed : Option Arm) × (fired : Option Bool) × CanBeRead now armed fired on) (sym (keeps-is catalog n is.records left keeps)) (by fails)
    where
      by : StartFails on → (armed : Option Arm) × (fired : Option Bool) × CanBeRead (record { me = n; catalog = catalog; records = is.records; surplus = 0 }) armed fired on
      by (inl fired) = (
        None,
        Some fired.fault.stops,
        (
          record_left (start_attempt catalog n is).calls (start_attempt catalog n is).appended fired.fault,
          is.standing,
          fired.disk,
          subst (λ (r : Reached). CanBeReplayed (setup_of catalog) n (site_after is (start_attempt catalog n is) r).records) fired.fires after,
          refl,
        ),
      )
      by (inr (armed, spells)) = (
        armed,
        None,
        (None, is.standing, none-more armed on spells, subst (CanBeReplayed (setup_of catalog) n) (sym (append-nil is.records)) replayable, refl),
      )

  -- A site that fell then, as what fired says, has broken off its start.
  pub is-broken : (left : Remains) (on : MemState) (cell : Cell) (stops : Bool) → KeepsRecords catalog n is.records left → StartFails on
      → ((added : Option Record) (standing : Standing) (armed : Option Arm) (fired : Option Bool) → Spells (left.records ++ option_to_list added) standing armed fired on
      → (fired ≡ Some stops)
      × StandsForSite left.catalog left.me cell (record { records = left.records ++ option_to_list added; standing = standing; arm = None; running = None }))
      → HasBegun catalog n cell is (start.Broke stops)
  is-broken left on cell stops keeps fails falls =
      by fails
      (subst (λ (now : Remains). (added : Option Record) (standing : Standing) (armed : Option Arm) (fired : Option Bool) → Spells (now.records ++ option_to_list added) standing armed fired on
      → (fired ≡ Some stops)
      × StandsForSite now.catalog now.me cell (record { records = now.records ++ option_to_list added; standing = standing; arm = None; running = None }))
      (keeps-is catalog n is.records left keeps) falls)
    where
      by : StartFails on
          → ((added : Option Record) (standing : Standing) (armed : Option Arm) (fired : Option Bool) → Spells (is.records ++ option_to_list added) standing armed fired on
          → (fired ≡ Some stops) × StandsForSite catalog n cell (record { records = is.records ++ option_to_list added; standing = standing; arm = None; running = None }))
          → HasBegun catalog n cell is (start.Broke stops)
      by (inl fired) fell =
          let added = record_left (start_attempt catalog n is).calls (start_attempt catalog n is).appended fired.fault in
          let has = fell added is.standing None (Some fired.fault.stops) fired.disk in
          record {
            arm = fired.fault;
            fires = fired.fires;
            kind = Some_inj has.0;
            stands = subst
                (λ (standing : Standing). StandsForSite catalog n cell (record { records = is.records ++ option_to_list added; standing = standing; arm = None; running = None }))
                (sym (start-leaves n (site_start (setup_of catalog) 0 is.records) fired.fault is.standing)) has.1;
          }
      by (inr (armed, spells)) fell = absurd (none-some stops (fell None is.standing armed None (none-more armed on spells)).0)

  -- The sync that comes first fails, and leaves no record; or something else failed.
  abbrev pub FailsEarly : MemState → Type 0
  FailsEarly on =
      ((fired : HasFired on) × (record_left (start_attempt catalog n is).calls (start_attempt catalog n is).appended fired.fault ≡ None))
      ⊎ ((armed : Option Arm) × Spells is.records is.standing armed None on)

  -- A site that is down then over the disk once that is mended, with what outlived its memory, has broken off its start.
  pub is-broken-early : (left : Remains) (on : MemState) (now : MemState) (stops : Bool) → KeepsRecords catalog n is.records left → FailsEarly on
      → ((records : List Record) (standing : Standing) (armed : Option Arm) (fired : Option Bool) → Spells records standing armed fired on → (fired ≡ Some stops) × Spells records standing None None now)
      → HasBegun catalog n (Down now left) is (start.Broke stops)
  is-broken-early left on now stops keeps (inl (fired, none)) mends =
      let mended = mends (broken_site is (start_attempt catalog n is) fired.fault).records is.standing None (Some fired.fault.stops) fired.disk in
      record {
        arm = fired.fault;
        fires = fired.fires;
        kind = Some_inj mended.0;
        stands = record {
          me = keeps.site;
          catalog = keeps.catalog;
          records = keeps.records ∙ sym (ap (λ (added : Option Record). is.records ++ option_to_list added) none ∙ append-nil is.records);
          surplus = keeps.surplus;
          down = refl;
          disk = subst (λ (standing : Standing). Spells (broken_site is (start_attempt catalog n is) fired.fault).records standing None None now)
              (sym (start-leaves n (site_start (setup_of catalog) 0 is.records) fired.fault is.standing)) mended.1;
        };
      }
  is-broken-early left on now stops keeps (inr (armed, spells)) mends = absurd (none-some stops (mends is.records is.standing armed None spells).0)

  -- The sync that comes first.
  module _ (contents : Contents) (on : MemState) (spelled : AreWritten is.records contents) where
    pub sync-fails : SyncsArmed contents is.standing (option_map armed_as is.arm) false on ⊎ SyncsArmed contents is.standing (option_map armed_as is.arm) true on → FailsEarly on
    sync-fails (inl fired) =
        let (fault, armed, near, holds) = comes-fired 0 (contents, is.standing) (λ arm. (contents, is.standing)) on is.arm fired in
        let early = fires-early n (site_start (setup_of catalog) 0 is.records) fault near in
        inl (
          record {
            fault = fault;
            fires = ap (λ (arm : Option Arm). reached (calls_of (start_attempt catalog n is)) arm) armed ∙ early.0;
            disk = record {
              contents = contents;
              spelled = subst (λ (left : Option Record). AreWritten (is.records ++ option_to_list left) contents) (sym early.1)
                  (subst (λ (all : List Record). AreWritten all contents) (sym (append-nil is.records)) spelled);
              holds = holds;
            };
          },
          early.1,
        )
    sync-fails (inr passed) =
        let (armed, still, holds) = comes-through 0 (contents, is.standing) (λ arm. (contents, is.standing)) on is.arm passed in
        inr (armed, record { contents = contents; spelled = spelled; holds = holds })

    pub sync-passes : (journal : CkptLog MemState) (left : Remains) → journal.disk ≡ on → KeepsRecords catalog n is.records left → IsIntact mem_model journal → journal.down ≡ false
        → journal.limit ≡ catalog.journal → SyncsArmed contents is.standing (option_map armed_as is.arm) true on → IsSynced catalog n journal left is
    sync-passes journal left same keeps intact up limit passed =
        let (armed, still, holds) = comes-through 0 (contents, is.standing) (λ arm. (contents, is.standing)) on is.arm passed in
        record {
          keeps = keeps;
          intact = intact;
          up = up;
          limit = limit;
          armed = armed;
          waits = still;
          disk = record { contents = contents; spelled = spelled; holds = subst (Holds contents is.standing (option_map armed_as armed) None) (sym same) holds };
        }

-- The opening of the journal.

module _ (catalog : Declared) (n : ℕ) (on : MemState) (left : Remains) (is : model.Site) (down : IsDown catalog n on left is) where
  abbrev pub down_arms : Option disk.Arm
  down_arms = option_map armed_as is.arm

  pub is-synced : (laws : Laws) (journal : CkptLog MemState) (limit : ℕ) → limit ≡ catalog.journal → opening.Opens mem_model on limit (Ok journal)
      → IsSynced catalog n journal left is
  is-synced laws journal limit within opens =
      sync-passes catalog n is down.disk.contents journal.disk down.disk.spelled journal left refl
      (record { site = down.me; catalog = down.catalog; records = down.records; surplus = down.surplus }) opens.3 opens.4 (opens.5 ∙ within)
      (laws.opens down.disk.contents is.standing down_arms on limit journal down.disk.holds opens)

  pub not-opened : (laws : Laws) (new : MemState) (limit : ℕ) → opening.Opens mem_model on limit (Err (unopened.Failed new)) → FailsEarly catalog n is new
  not-opened laws new limit failed =
      sync-fails catalog n is down.disk.contents new down.disk.spelled (laws.fails down.disk.contents is.standing down_arms on limit new down.disk.holds failed)

  -- Its disk holds a journal.
  pub is-ours : (laws : Laws) (new : MemState) (limit place : ℕ) → opening.Opens mem_model on limit (Err (unopened.NotOurs new place)) → ⊥
  is-ours laws new limit place foreign = laws.ours down.disk.contents is.standing down_arms on limit new place down.disk.holds foreign

  -- A site that is down begins.
  pub started-down : (result : Result (Cell × Start) NoMemory) → IfOk result (λ made. HasBegun catalog n made.0 is made.1)
      → IfOk result (λ made. HasStarted catalog n (Down on left) made.0 is is.running made.1)
  started-down result begun =
      subst (λ (now : Option Running). IfOk result (λ made. HasStarted catalog n (Down on left) made.0 is now made.1)) (sym down.down) begun

pub replayable-after : (catalog : Declared) (n : ℕ) (on : MemState) (left : Remains) (can : CanStart catalog n (Down on left))
    → CanBeReplayed (setup_of catalog) n (site_after_start catalog n can.is None).records
replayable-after catalog n on left can =
    let down : IsDown catalog n on left can.is = can.stands in
    subst (λ (now : Option Running). CanBeReplayed (setup_of catalog) n (site_after_start catalog n can.is now).records) down.down can.after

-- The epoch that is recorded.

module _ (setup : Setup) (surplus : ℕ) (records : List Record) (running : Running) (epoch : ℕ) where
  -- The epoch that is recorded is the one that runs.
  epoch-runs : site_start setup surplus records ≡ starts running (epoch_begun epoch) → running.epoch ≡ epoch
  unfolding site_start
  epoch-runs is = by (nat_le NEVER_GIVEN (greatest_epoch records + 1)) (nat_lt setup.catalog.journal (longer_journal surplus records + record_bytes (epoch_begun (greatest_epoch records + 1)))) is
    where
      by : (spent full : Bool) → (if spent then no_epoch else (if full then too_long (longer_journal surplus records + record_bytes (epoch_begun (greatest_epoch records + 1)))
          else starts (just_started (greatest_epoch records + 1)) (epoch_begun (greatest_epoch records + 1)))) ≡ starts running (epoch_begun epoch) → running.epoch ≡ epoch
      by true full same = absurd (let wrong : ⊥ = cc in wrong)
      by false true same = absurd (let wrong : ⊥ = cc in wrong)
      by false false same =
          let runs : just_started (greatest_epoch records + 1) ≡ running = cc in
          let begun : epoch_begun (greatest_epoch records + 1) ≡ epoch_begun epoch = cc in
          let number : greatest_epoch records + 1 ≡ epoch = cc in
          sym (ap (λ (r : Running). r.epoch) runs) ∙ number

-- On a journal that was synced.

module _ (laws : Laws) (catalog : Declared) (n : ℕ) (journal : CkptLog MemState) (left : Remains) (is : model.Site) (synced : IsSynced catalog n journal left is) where
  abbrev held : Contents
  held = synced.disk.contents

  abbrev arms : Option disk.Arm
  arms = option_map armed_as synced.armed

  known : contents_now mem_model journal ≡ Some held
  known = holds-contents held is.standing arms None journal synced.disk.holds

  holds-up : HoldsUp held is.standing arms journal
  holds-up = laws.intact held is.standing arms journal synced.intact synced.up synced.disk.holds

  -- The journal holds the site's records.
  holds-records : Sizes → HoldsRecords (ckpt_model mem_model) journal 0 is.records
  holds-records sizes = record {
    up = synced.up;
    size = (ckpt_model mem_model).size_is journal held synced.intact synced.up known ∙ sizes is.records held synced.disk.spelled;
    held = λ contents told. subst (SpellRecords is.records) (Some_inj (sym known ∙ told)) (written-read is.records held synced.disk.spelled);
  }

  left-is : left ≡ record { me = n; catalog = catalog; records = is.records; surplus = 0 }
  left-is = keeps-is catalog n is.records left synced.keeps

  -- It is as long as these make it.
  pub is-long : Sizes → (length : ℕ) → length ≡ journal.length → length ≡ journal_bytes left.records
  is-long sizes length asked = asked ∙ ((holds-records sizes).size ∙ ap journal_bytes (sym synced.keeps.records))

  -- So the site can go on over it.
  pub can-resume : Sizes → n < catalog.sites → CanResume (ckpt_model mem_model) journal left
  can-resume sizes within =
      subst (CanResume (ckpt_model mem_model) journal) (sym left-is) (record { intact = synced.intact; limit = synced.limit; holds = holds-records sizes; site = within })

  start-is : (started : Started) → site_start (setup_of left.catalog) left.surplus left.records ≡ started → start_attempt catalog n is ≡ of_start n started
  start-is started begins = ap (λ (now : Remains). of_start n (site_start (setup_of now.catalog) now.surplus now.records)) (sym left-is) ∙ ap (of_start n) begins

  -- The site runs.
  after-append : (content : List ℕ) (new : CkptLog MemState) → Makes (LogGoes mem_model) journal (reserve (length content) ∷ append content ∷ []) true new
      → AppendsArmed held is.standing content arms true new.disk
  after-append content new makes = elim (laws.appends held is.standing arms journal new content true holds-up makes) [
    | inl appends ↦ appends
    | inr (same, holds) ↦ absurd (true≢false same)
  ]

  pub has-begun : (up : SiteState (CkptLog MemState)) → HasResumed (ckpt_model mem_model) journal left false up → IsReady (ckpt_model mem_model) up
      → HasBegun catalog n (Up up) is (start.Started up.epoch)
  has-begun up resumed ready =
      let attempt = start-is (starts resumed.running (epoch_begun resumed.epoch)) resumed.starts in
      let (later, still, holds) = comes-through 3 (held ++ resumed.content ∷ [], is.standing) (λ fired. (contents_left held resumed.content fired, is.standing)) up.log.disk synced.armed
      (after-append resumed.content up.log resumed.calls) in (
        ap (λ (a : Attempt). a.lines) attempt
            ∙ ap (λ (epoch : ℕ). protocol.Line.started n epoch ∷ [])
            (epoch-runs (setup_of left.catalog) left.surplus left.records resumed.running resumed.epoch resumed.starts ∙ sym (ap (λ (s : SiteState (CkptLog MemState)). s.epoch) resumed.site)),
        subst (IsDone catalog n (Up up) is) (sym attempt)
            (record {
              armed = later;
              waits = waits-both is.arm synced.armed later synced.waits still;
              stands = record {
                me = ap (λ (s : SiteState (CkptLog MemState)). s.me) resumed.site ∙ synced.keeps.site;
                catalog = ap (λ (s : SiteState (CkptLog MemState)). s.catalog) resumed.site ∙ synced.keeps.catalog;
                records = ap (λ (s : SiteState (CkptLog MemState)). s.records) resumed.site
                    ∙ ap (λ (all : List Record). all ++ epoch_begun resumed.epoch ∷ []) synced.keeps.records;
                surplus = ap (λ (s : SiteState (CkptLog MemState)). s.surplus) resumed.site ∙ synced.keeps.surplus;
                runs = ap (λ (s : SiteState (CkptLog MemState)). is_some s.running) resumed.site;
                running = ap (λ (s : SiteState (CkptLog MemState)). s.running) resumed.site;
                ready = ready;
                disk = record {
                  contents = held ++ resumed.content ∷ [];
                  spelled = written-more is.records held (epoch_begun resumed.epoch) resumed.content synced.disk.spelled resumed.content_is;
                  holds = holds;
                };
              };
            }),
      )

  -- It is refused, and is down as it was.
  is-refused : (line : protocol.Line) → start_attempt catalog n is ≡ refused_start line
      → ((start_attempt catalog n is).lines ≡ line ∷ []) × IsDone catalog n (Down journal.disk left) is (start_attempt catalog n is)
  is-refused line attempt = (
    ap (λ (a : Attempt). a.lines) attempt,
    subst (IsDone catalog n (Down journal.disk left) is) (sym attempt)
        (record {
          armed = synced.armed;
          waits = synced.waits;
          stands = record {
            me = synced.keeps.site;
            catalog = synced.keeps.catalog;
            records = synced.keeps.records ∙ sym (append-nil is.records);
            surplus = synced.keeps.surplus;
            down = refl;
            disk = record {
              contents = held;
              spelled = subst (λ (all : List Record). AreWritten all held) (sym (append-nil is.records)) synced.disk.spelled;
              holds = synced.disk.holds;
            };
          };
        }),
  )

  -- What comes back is what was there.
  come-back : (new : CkptLog MemState) (back : Remains) (answer : Start) → new ≡ journal → back ≡ left → HasBegun catalog n (Down journal.disk left) is answer
      → HasBegun catalog n (Down new.disk back) is answer
  come-back new back answer same given begun =
      subst (λ (now : CkptLog MemState). HasBegun catalog n (Down now.disk back) is answer) (sym same)
      (subst (λ (now : Remains). HasBegun catalog n (Down journal.disk now) is answer) (sym given) begun)

  pub has-no-room : (new : CkptLog MemState) (back : Remains) (length : ℕ) → Resumes (ckpt_model mem_model) journal left false (Err (refused.Full new back length))
      → HasBegun catalog n (Down new.disk back) is (start.Full length)
  has-no-room new back length (same, given, cause) =
      come-back new back (start.Full length) same given (is-refused (protocol.Line.full n length) (start-is (too_long length) cause))

  pub has-no-epoch : (new : CkptLog MemState) (back : Remains) → Resumes (ckpt_model mem_model) journal left false (Err (refused.EpochsSpent new back))
      → HasBegun catalog n (Down new.disk back) is start.Spent
  has-no-epoch new back (same, given, cause) = come-back new back start.Spent same given (is-refused (protocol.Line.spent n) (start-is no_epoch cause))

  append-fires : (running : Running) (epoch : ℕ) (content : List ℕ) (new : CkptLog MemState)
      → site_start (setup_of left.catalog) left.surplus left.records ≡ starts running (epoch_begun epoch)
      → SpellsRecord (epoch_begun epoch) content → AppendsArmed held is.standing content arms false new.disk → HasFired catalog n is new.disk
  append-fires running epoch content new begins one fired =
      let (fault, armed, near, holds) = comes-fired 3 (held ++ content ∷ [], is.standing) (λ fault. (contents_left held content fault, is.standing)) new.disk synced.armed fired in
      let late : FiresLate is.arm fault = fires-late is.arm synced.armed fault synced.waits armed near in
      let attempt = start-is (starts running (epoch_begun epoch)) begins in
      record {
        fault = late.first;
        fires = ap (λ (a : Attempt). reached (calls_of a) is.arm) attempt ∙ (ap (λ (arm : Option Arm). reached 5 arm) late.is ∙ fires-within 4 late.first late.near);
        disk = subst (λ (a : Attempt). Spells (broken_site is a late.first).records is.standing None (Some late.first.stops) new.disk) (sym attempt)
            (record {
              contents = contents_left held content (armed_as (later_by 1 late.first));
              spelled = spell-left is.records held (epoch_begun epoch) content synced.disk.spelled one 1 late.first late.late;
              holds = subst (λ (f : Arm). Holds (contents_left held content (armed_as f)) is.standing None (Some f.stops) new.disk) late.same holds;
            });
      }

  -- Its journal failed at the epoch.
  pub resuming-fails : (new : CkptLog MemState) → FailsToResume (ckpt_model mem_model) journal left new → StartFails catalog n is new.disk
  resuming-fails new fails =
      let calls : Makes (LogGoes mem_model) journal (reserve (length fails.content) ∷ append fails.content ∷ []) false new =
      elim fails.calls [ inl (kept, reserves) ↦ inl (refl, reserves) | inr (roomy, kept, reserves, appends) ↦ inr (roomy, reserves, inl (refl, appends)) ] in
      elim (laws.appends held is.standing arms journal new fails.content false holds-up calls) [
        | inl fired ↦ inl (append-fires fails.running fails.epoch fails.content new fails.starts fails.content_is fired)
        | inr (same, holds) ↦ inr (synced.armed, record { contents = held; spelled = synced.disk.spelled; holds = holds })
      ]
