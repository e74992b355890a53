-- What a checkpoint makes of a site that is up, on a disk where a fault may be armed.
use Rattle.std.proofs.Common.{◌≡◌, ◌≢◌, ◌⊎◌, inl, inr, ℕ, suc, ◌+◌, ◌-◌, ◌<◌, ◌≤◌, ◌^◌, Bool, true, false, List, [], ◌++◌, Option, Some, None, Ok, Err, refl, sym, ap, subst, ◌∙◌, arith}
use Rattle.std.specs.Prelude.{◌&&◌, is_some, nat_lt, option_to_list}
use Rattle.std.specs.Option.{option_map}
use Rattle.std.proofs.lemmas.Bool.{true≢false}
use Rattle.std.proofs.lemmas.List.{append-nil}
use Rattle.std.proofs.lemmas.Option.{none-some}
use Rattle.std.proofs.Math.Nat.{add-zero}
use Rattle.pv_base.proofs.Basics.{Some_inj}
use Rattle.pv_base.specs.Catalog.{Declared}
use Rattle.pv_ckpt.specs.Armed.{ComesTo, Holds, HoldsUp, PacksArmed}
use Rattle.pv_ckpt.specs.Checkpointing.{CheckpointMakes, Checkpoints}
use Rattle.pv_ckpt.specs.CkptLog.{IsIntact}
use Rattle.pv_ckpt.specs.CkptModel.{ckpt_model}
use Rattle.pv_ckpt.specs.declared.ckpt_error.CkptError.TheVariants as refused
use Rattle.pv_ckpt.specs.declared.ckpt_log.CkptLog.{CkptLog}
use Rattle.pv_disk.specs.MemDisk.{MemState}
use Rattle.pv_disk.specs.MemLaws.{mem_model}
use Rattle.pv_disk.specs.declared.arms.Arm as disk
use Rattle.pv_disk_model.specs.Size.{Contents}
use Rattle.pv_format.specs.Checkpoint as checkpoint
use Rattle.pv_format.specs.Checkpoint.{Standing, greatest_number, done, part_of, left_by}
use Rattle.pv_format.specs.Contents.{AreWritten, SpellRecords}
use Rattle.pv_format.specs.Record.{Record}
use Rattle.pv_law_events.specs.Replays.{CanBeReplayed}
use Rattle.pv_law_format.proofs.ReplayLemmas.{written-read}
use Rattle.pv_protocol.specs.Arms.{calls_of, is_kept, fires, reached, waits}
use Rattle.pv_protocol.specs.Attempt.{of_checkpoint}
use Rattle.pv_protocol.specs.Records.{journal_bytes}
use Rattle.pv_protocol.specs.State as model
use Rattle.pv_protocol.specs.State.{Arm, Running}
use Rattle.pv_site.specs.Recovered.{Remains}
use Rattle.pv_site.specs.SiteState.{SiteState, setup_of}
use Rattle.pv_site.specs.Steps.{HoldsWhatRuns}
use Rattle.pv_world.proofs.CellLemmas.{not-down, old-left, size-known}
use Rattle.pv_world.proofs.RestartArms.{comes-fired, comes-through, fires-within, no-record}
use Rattle.pv_world.proofs.RestartDisks.{holds-contents}
use Rattle.pv_world.proofs.StepLemmas.{Rests}
use Rattle.pv_world.specs.Cells as cells
use Rattle.pv_world.specs.Cells.{CanFall, HasFallen, HasPacked, IsDone, IsUpOver}
use Rattle.pv_world.specs.Disks.{Spells, armed_as}
use Rattle.pv_world.specs.Stands.{IsUp, StandsForSite}
use Rattle.pv_world.specs.declared.cell.Cell.TheVariants.{Up}
use Rattle.pv_world.specs.declared.cell.Cell.{Cell}
use Rattle.pv_world.specs.declared.cell.Checkpointed.TheVariants as packed

-- The laws of checkpoints on disks in memory.

abbrev pub Packs : Type 0
Packs = (contents : Contents) (standing : Standing) (armed : Option disk.Arm) (old new : CkptLog MemState) (ok : Bool) → IsIntact mem_model old → HoldsUp contents standing armed old
    → old.length ≤ old.limit → old.root.number < 2 ^ 64 - 1 → CheckpointMakes mem_model old new ok
    → PacksArmed contents standing armed ok new.disk ⊎ ((ok ≡ false) × Holds contents standing armed None new.disk)

abbrev pub Numbers : Type 0
Numbers = (contents : Contents) (standing : Standing) (armed : Option disk.Arm) (log : CkptLog MemState) → HoldsUp contents standing armed log
    → log.root.number ≡ standing.number

-- A site that is up has something in memory.
pub memory-there : (catalog : Declared) (n : ℕ) (up : SiteState (CkptLog MemState)) (is : model.Site) → IsUp catalog n up is → (running : Running) × (is.running ≡ Some running)
memory-there catalog n up is stands = by up.running stands.runs stands.running
  where
    by : (running : Option Running) → is_some running ≡ true → running ≡ is.running → (running : Running) × (is.running ≡ Some running)
    by None none same = absurd (true≢false (sym none))
    by (Some running) some same = (running, sym same)

-- Two sites that a cell stands for have the same records, and the same room for them.
pub room-here : (catalog other : Declared) (n m : ℕ) (up : SiteState (CkptLog MemState)) (is was : model.Site) → IsUp catalog n up is → IsUp other m up was
    → journal_bytes was.records ≤ other.journal → journal_bytes is.records ≤ catalog.journal
room-here catalog other n m up is was stands stood room =
    let records : was.records ≡ is.records = sym stood.records ∙ stands.records in
    let same : other ≡ catalog = sym stood.catalog ∙ stands.catalog in
    subst (λ (c : Declared). journal_bytes is.records ≤ c.journal) same (subst (λ (all : List Record). journal_bytes all ≤ other.journal) records room)

-- A number that equals one below the greatest, or the greatest.
is-below : (known is : ℕ) → known ≡ is → known < 2 ^ 64 - 1 → is < greatest_number
is-below known is same less = subst (λ (n : ℕ). n < greatest_number) same less

is-greatest : (known is : ℕ) → known ≡ is → known ≡ 2 ^ 64 - 1 → greatest_number ≤ is
is-greatest known is same most = omega (arith, same, most)

-- A checkpoint makes some calls.
some-calls : (other_open : Bool) → (more : ℕ) × (checkpoint.calls_of other_open ≡ suc more)
some-calls true = (7, refl)
some-calls false = (5, refl)

module _ (catalog : Declared) (n : ℕ) (old : SiteState (CkptLog MemState)) (is : model.Site) (up : IsUp catalog n old is) (rests : Rests) (numbers : Numbers) (packs : Packs) where
  abbrev held : Contents
  held = up.disk.contents

  abbrev arms : Option disk.Arm
  arms = option_map armed_as is.arm

  abbrev Attempted : Running → ℕ
  Attempted running = calls_of (of_checkpoint is.standing running)

  -- The site is up, and so is its log.
  log-up : old.log.down ≡ false
  log-up = by old.running up.runs up.ready.holds
    where
      by : (running : Option Running) → is_some running ≡ true → HoldsWhatRuns (ckpt_model mem_model) old.log old.surplus old.records running → old.log.down ≡ false
      by None none holds = absurd (true≢false (sym none))
      by (Some running) some holds = holds.up

  holds-up : HoldsUp held is.standing arms old.log
  holds-up = rests held is.standing arms old.log up.ready.intact log-up up.disk.holds

  -- The log knows the number in force.
  pub number-is : old.log.root.number ≡ is.standing.number
  number-is = numbers held is.standing arms old.log holds-up

  within-limit : journal_bytes is.records ≤ catalog.journal → old.log.length ≤ old.log.limit
  within-limit room =
      let limit : old.log.limit ≡ catalog.journal = up.ready.limit ∙ ap (λ (c : Declared). c.journal) up.catalog in
      subst (λ (size : ℕ). size ≤ old.log.limit) (sym (size-known catalog n old is up))
      (subst (λ (most : ℕ). journal_bytes is.records ≤ most) (sym limit) room)

  runs : (running : Running) → is.running ≡ Some running → old.running ≡ Some running
  runs running at = up.running ∙ at

  module _ (new : CkptLog MemState) (room : journal_bytes is.records ≤ catalog.journal) (running : Running) (at : is.running ≡ Some running) where
    abbrev after : SiteState (CkptLog MemState)
    after = record old { log = new }

    -- A checkpoint that is done.
    pub has-packed : {X : Type 0} (x : X) → Checkpoints mem_model {X = X} old.log new (Ok x) → IsIntact mem_model new
        → HasPacked catalog n (Up old) (Up after) is (Some running) packed.Done
    has-packed x (keeps, finished, makes, number) intact =
        (is-below _ _ number-is number, by (packs held is.standing arms old.log new true up.ready.intact holds-up (within-limit room) number makes))
      where
        by : PacksArmed held is.standing arms true new.disk ⊎ ((true ≡ false) × Holds held is.standing arms None new.disk)
            → IsDone catalog n (Up after) is (of_checkpoint is.standing running)
        by (inr (failed, holds)) = absurd (true≢false failed)
        by (inl comes) = through (some-calls is.standing.other_open)
          where
            through : (more : ℕ) × (checkpoint.calls_of is.standing.other_open ≡ suc more) → IsDone catalog n (Up after) is (of_checkpoint is.standing running)
            through (more, count) =
                let left : disk.Arm → Contents × Standing = λ arm. (held, left_by (part_of is.standing.other_open arm.left) arm.mode is.standing) in
                let made : Contents × Standing = (held, done is.standing) in
                let (armed, waiting, holds) = comes-through more made left new.disk is.arm
                (subst (λ (calls : ℕ). ComesTo calls arms made left true new.disk) count comes) in
                let calls : Attempted running ≡ suc more = add-zero (checkpoint.calls_of is.standing.other_open) ∙ count in
                let spelled = subst (λ (all : List Record). AreWritten all held) (sym (append-nil is.records)) up.disk.spelled in
                record {
                  armed = armed;
                  waits = ap (λ (c : ℕ). reached c is.arm) calls ∙ waiting;
                  stands = record {
                    me = up.me;
                    catalog = up.catalog;
                    records = up.records ∙ sym (append-nil is.records);
                    surplus = up.surplus;
                    runs = up.runs;
                    running = runs running at;
                    ready = record {
                      intact = intact;
                      limit = keeps.limit ∙ up.ready.limit;
                      holds = still-holds old.running up.ready.holds armed holds;
                    };
                    disk = record { contents = held; spelled = spelled; holds = holds };
                  };
                }
              where
                still-holds : (memory : Option Running) → HoldsWhatRuns (ckpt_model mem_model) old.log old.surplus old.records memory → (armed : Option Arm)
                    → Holds held (done is.standing) (option_map armed_as armed) None new.disk → HoldsWhatRuns (ckpt_model mem_model) new old.surplus old.records memory
                still-holds None was armed holds = tt
                still-holds (Some memory) was armed holds = record {
                  up = finished.up;
                  size = keeps.length ∙ was.size;
                  held = λ contents told.
                      subst (SpellRecords old.records)
                      (Some_inj (sym (holds-contents held (done is.standing) (option_map armed_as armed) None new holds) ∙ told))
                      (subst (λ (all : List Record). SpellRecords all held) (sym up.records) (written-read is.records held up.disk.spelled));
                }

    -- The number in force is the greatest.
    pub is-spent : Checkpoints mem_model {X = Unit {0}} old.log new (Err refused.Spent) → HasPacked catalog n (Up old) (Up after) is (Some running) packed.Spent
    is-spent (up_before, same, number) = (is-greatest _ _ number-is number, ap (λ (log : CkptLog MemState). Up (record old { log = log })) same)

    -- What its disk holds where the checkpoint fails: a fault has fired, or all is as it was.
    record HasFired : Type 0 where
      fault : Arm
      fires : reached (Attempted running) is.arm ≡ fires fault
      disk : Spells (is.records ++ option_to_list None) (left_by (part_of is.standing.other_open fault.call) fault.mode is.standing) None (Some fault.stops) new.disk

    abbrev BreaksOff : Type 0
    BreaksOff = HasFired ⊎ Spells (is.records ++ option_to_list None) is.standing is.arm None new.disk

    spelled-still : AreWritten (is.records ++ option_to_list None) held
    spelled-still = subst (λ (all : List Record). AreWritten all held) (sym (append-nil is.records)) up.disk.spelled

    breaks-off : Checkpoints mem_model {X = Unit {0}} old.log new (Err refused.Failed) → BreaksOff
    breaks-off (keeps, failed, makes, number) = by (packs held is.standing arms old.log new false up.ready.intact holds-up (within-limit room) number makes)
      where
        by : PacksArmed held is.standing arms false new.disk ⊎ ((false ≡ false) × Holds held is.standing arms None new.disk) → BreaksOff
        by (inr (same, holds)) = inr (record { contents = held; spelled = spelled-still; holds = holds })
        by (inl comes) = through (some-calls is.standing.other_open)
          where
            through : (more : ℕ) × (checkpoint.calls_of is.standing.other_open ≡ suc more) → BreaksOff
            through (more, count) =
                let left : disk.Arm → Contents × Standing = λ arm. (held, left_by (part_of is.standing.other_open arm.left) arm.mode is.standing) in
                let made : Contents × Standing = (held, done is.standing) in
                let (fault, armed, near, holds) = comes-fired more made left new.disk is.arm
                (subst (λ (calls : ℕ). ComesTo calls arms made left false new.disk) count comes) in
                let calls : Attempted running ≡ suc more = add-zero (checkpoint.calls_of is.standing.other_open) ∙ count in
                inl (record {
                  fault = fault;
                  fires = ap (λ (c : ℕ). reached c is.arm) calls ∙ (ap (λ (arm : Option Arm). reached (suc more) arm) armed ∙ fires-within more fault near);
                  disk = record { contents = held; spelled = spelled-still; holds = holds };
                })

    -- Its memory is outlived by what was there before.
    abbrev left : Remains
    left = record { me = n; catalog = catalog; records = is.records; surplus = 0 }

    up-over : (standing : Standing) (armed : Option Arm) (fired : Option Bool) → Spells (is.records ++ option_to_list None) standing armed fired new.disk
        → IsUpOver left None standing armed fired (Up after)
    up-over standing armed fired disk = (sym (old-left catalog n old is up), disk)

    -- It can be taken from memory.
    pub can-fall : (length : ℕ) → length ≡ old.log.length → Checkpoints mem_model {X = Unit {0}} old.log new (Err refused.Failed) → CanBeReplayed (setup_of catalog) n is.records
        → CanFall length (Up after)
    can-fall length asked failed replayable = by (breaks-off failed)
      where
        still : CanBeReplayed (setup_of catalog) n (is.records ++ option_to_list None)
        still = subst (CanBeReplayed (setup_of catalog) n) (sym (append-nil is.records)) replayable

        by : BreaksOff → CanFall length (Up after)
        by (inl fired) = record {
          left = left;
          added = None;
          standing = left_by (part_of is.standing.other_open fired.fault.call) fired.fault.mode is.standing;
          armed = None;
          fired = Some fired.fault.stops;
          over = up-over _ None (Some fired.fault.stops) fired.disk;
          size = asked ∙ size-known catalog n old is up;
          replayable = still;
          surplus = refl;
        }
        by (inr disk) = record {
          left = left;
          added = None;
          standing = is.standing;
          armed = is.arm;
          fired = None;
          over = up-over is.standing is.arm None disk;
          size = asked ∙ size-known catalog n old is up;
          replayable = still;
          surplus = refl;
        }

    -- Once it is, the checkpoint is broken off.
    pub has-broken : (cell : Cell) (stops : Bool) → Checkpoints mem_model {X = Unit {0}} old.log new (Err refused.Failed)
        → ((left : Remains) (added : Option Record) (standing : Standing) (armed : Option Arm) (fired : Option Bool) → IsUpOver left added standing armed fired (Up after)
        → HasFallen left added standing fired cell stops)
        → HasPacked catalog n (Up old) cell is (Some running) (packed.Broke stops)
    has-broken cell stops failed fell = (is-below _ _ number-is failed.3, by (breaks-off failed))
      where
        by : BreaksOff → cells.IsBroken catalog n cell is (of_checkpoint is.standing running) stops
        by (inl fired) =
            let fallen = fell left None (left_by (part_of is.standing.other_open fired.fault.call) fired.fault.mode is.standing) None (Some fired.fault.stops)
            (up-over _ None (Some fired.fault.stops) fired.disk) in
            record {
              arm = fired.fault;
              fires = fired.fires;
              kind = Some_inj fallen.kind;
              stands = subst (λ (kept : Option Record). StandsForSite catalog n cell
                  (record {
                    records = is.records ++ option_to_list kept;
                    standing = left_by (part_of is.standing.other_open fired.fault.call) fired.fault.mode is.standing;
                    arm = None;
                    running = None;
                  }))
                  (sym (no-record (nat_lt (checkpoint.calls_of is.standing.other_open + 2) fired.fault.call && is_kept fired.fault.mode))) fallen.stands;
            }
        by (inr disk) = absurd (none-some stops (fell left None is.standing is.arm None (up-over is.standing is.arm None disk)).kind)
