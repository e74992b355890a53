-- What a step, a stop, a start and an armed fault make of a cell.
use Rattle.std.specs.Prelude.{◌≡◌, ℕ, ◌<◌, ◌≤◌, true, false, Bool, All, List, [], ◌∷◌, ◌++◌, option_to_list, Option, Some, None}
use Rattle.pv_base.specs.Catalog.{Declared}
use Rattle.pv_disk.specs.MemDisk.{MemState}
use Rattle.pv_format.specs.Checkpoint.{Standing, greatest_number}
use Rattle.pv_format.specs.Record.{Record}
use Rattle.pv_ckpt.specs.declared.ckpt_log.CkptLog.{CkptLog}
use Rattle.pv_law_events.specs.Replays.{CanBeReplayed}
use Rattle.pv_protocol.specs.Arms.{Reached, waits, fires, reached, calls_of, record_left, standing_made, standing_left, broken_line}
use Rattle.pv_protocol.specs.Attempt.{Attempt, of_step, of_start, of_checkpoint}
use Rattle.pv_protocol.specs.Lines as protocol
use Rattle.pv_protocol.specs.Records.{journal_bytes}
use Rattle.pv_protocol.specs.Start.{site_start}
use Rattle.pv_protocol.specs.State as model
use Rattle.pv_protocol.specs.State.{Arm, Running}
use Rattle.pv_protocol.specs.Step.{site_step}
use Rattle.pv_site.specs.Answer.{IsAnswer}
use Rattle.pv_site.specs.Given.{IsGivenFor, input_in}
use Rattle.pv_site.specs.Inputs.{IsSpelledFrom}
use Rattle.pv_site.specs.Recovered.{Remains}
use Rattle.pv_site.specs.SiteState.{SiteState, setup_of}
use Rattle.pv_site.specs.declared.input.Given.{Given}
use Rattle.pv_world.specs.Disks.{Spells}
use Rattle.pv_world.specs.Stands.{StandsForSite}
use Rattle.pv_world.specs.declared.cell.Cell.{Cell}
use Rattle.pv_world.specs.declared.cell.Cell.TheVariants.{Up}
use Rattle.pv_world.specs.declared.cell.Checkpointed.{Checkpointed}
use Rattle.pv_world.specs.declared.cell.Checkpointed.TheVariants as packed
use Rattle.pv_world.specs.declared.cell.Start.{Start}
use Rattle.pv_world.specs.declared.cell.Start.TheVariants as start
use Rattle.pv_world.specs.declared.cell.Stepped.{Stepped}
use Rattle.pv_world.specs.declared.cell.Stepped.TheVariants.{Down, Made, Broke}

-- The site once all writes and syncs of an attempt are made. Its disk is then armed so.
abbrev pub completed_site : model.Site → Attempt → Option Arm → model.Site
completed_site is attempt arm =
    record {
      records = is.records ++ option_to_list attempt.appended;
      standing = standing_made attempt.packs is.standing;
      arm = arm;
      running = attempt.running;
    }

-- The site that one of them stopped, or made fail.
abbrev pub broken_site : model.Site → Attempt → Arm → model.Site
broken_site is attempt arm =
    record {
      records = is.records ++ option_to_list (record_left attempt.calls attempt.appended arm);
      standing = standing_left attempt.packs arm is.standing;
      arm = None;
      running = None;
    }

-- the site after an attempt
abbrev pub site_after : model.Site → Attempt → Reached → model.Site
site_after is attempt (waits arm) = completed_site is attempt arm
site_after is attempt (fires arm) = broken_site is attempt arm

-- What a site with these records attempts, where it has this in memory and is given an input.
abbrev pub step_attempt : Declared → ℕ → model.Site → Running → model.Input → Attempt
step_attempt catalog n is running input = of_step n (site_step (setup_of catalog) n is.records running input)

-- what it attempts in a start
abbrev pub start_attempt : Declared → ℕ → model.Site → Attempt
start_attempt catalog n is = of_start n (site_start (setup_of catalog) 0 is.records)

-- The site after an input. One that is down takes none.
abbrev pub site_after_input : Declared → ℕ → model.Site → Option Running → model.Input → model.Site
site_after_input catalog n is None input = is
site_after_input catalog n is (Some running) input =
    let attempt = step_attempt catalog n is running input in site_after is attempt (reached (calls_of attempt) is.arm)

-- The site after a start. One that is up stays so.
abbrev pub site_after_start : Declared → ℕ → model.Site → Option Running → model.Site
site_after_start catalog n is None = let attempt = start_attempt catalog n is in site_after is attempt (reached (calls_of attempt) is.arm)
site_after_start catalog n is (Some running) = is

-- The cell is the site of this number, and the input is for it. It can read its records anew, now and after the input.
pub record TakesInput (catalog : Declared) (n : ℕ) (cell : Cell) (input : Given) : Type 0 where
  pub is : model.Site
  pub stands : StandsForSite catalog n cell is
  pub fits : IsGivenFor n catalog input
  pub replayable : CanBeReplayed (setup_of catalog) n is.records
  pub after : CanBeReplayed (setup_of catalog) n (site_after_input catalog n is is.running (input_in input)).records

-- The cell is some site, whose log is within its limit, and it can read its records anew.
pub record CanPack (cell : Cell) : Type 0 where
  pub catalog : Declared
  pub n : ℕ
  pub is : model.Site
  pub stands : StandsForSite catalog n cell is
  pub room : journal_bytes is.records ≤ catalog.journal
  pub replayable : CanBeReplayed (setup_of catalog) n is.records

-- The cell is the site of this number. It can read its records anew, now and after a start.
pub record CanStart (catalog : Declared) (n : ℕ) (cell : Cell) : Type 0 where
  pub is : model.Site
  pub stands : StandsForSite catalog n cell is
  pub replayable : CanBeReplayed (setup_of catalog) n is.records
  pub after : CanBeReplayed (setup_of catalog) n (site_after_start catalog n is is.running).records

-- The disk holds the records of what outlived the memory, with one more or none. This is armed there, and this has fired. The site can read them anew.
abbrev pub CanBeRead : Remains → Option Arm → Option Bool → MemState → Type 0
CanBeRead left armed fired disk =
    (added : Option Record) × (standing : Standing) × Spells (left.records ++ option_to_list added) standing armed fired disk
    × CanBeReplayed (setup_of left.catalog) left.me (left.records ++ option_to_list added) × (left.surplus ≡ 0)

-- what outlives the memory of the site
abbrev pub left_by : SiteState (CkptLog MemState) → Remains
left_by up = record { me = up.me; catalog = up.catalog; records = up.records; surplus = up.surplus }

-- The cell's site is in memory, which this outlives, and its disk holds the records of it and this one, if it is one, in a log that stands so. This is armed there, and
-- this has fired.
abbrev pub IsUpOver : Remains → Option Record → Standing → Option Arm → Option Bool → Cell → Type 0
IsUpOver left added standing armed fired (Up up) = (left ≡ left_by up) × Spells (left.records ++ option_to_list added) standing armed fired up.log.disk
IsUpOver left added standing armed fired other = ⊥

-- The cell's site is in memory, over a disk that holds its records with one more or none, which it can read anew. Its own make a log this long.
pub record CanFall (length : ℕ) (cell : Cell) : Type 0 where
  pub left : Remains
  pub added : Option Record
  pub standing : Standing
  pub armed : Option Arm
  pub fired : Option Bool
  pub over : IsUpOver left added standing armed fired cell
  pub size : length ≡ journal_bytes left.records
  pub replayable : CanBeReplayed (setup_of left.catalog) left.me (left.records ++ option_to_list added)
  pub surplus : left.surplus ≡ 0

-- What outlived the memory of the site of this number is of these records, as they are written.
pub record KeepsRecords (declared : Declared) (n : ℕ) (recorded : List Record) (left : Remains) : Type 0 where
  pub site : left.me ≡ n
  pub catalog : left.catalog ≡ declared
  pub records : left.records ≡ recorded
  pub surplus : left.surplus ≡ 0

-- what a start prints
abbrev pub start_line : ℕ → Start → protocol.Line
start_line n start.Up = protocol.Line.up n
start_line n (start.Started epoch) = protocol.Line.started n epoch
start_line n (start.Full length) = protocol.Line.full n length
start_line n start.Spent = protocol.Line.spent n
start_line n (start.Broke stops) = broken_line n stops

-- what a checkpoint prints
abbrev pub packed_lines : ℕ → Checkpointed → List protocol.Line
packed_lines n packed.Down = protocol.Line.down n ∷ []
packed_lines n packed.Done = []
packed_lines n packed.Spent = protocol.Line.spent n ∷ []
packed_lines n (packed.Broke stops) = broken_line n stops ∷ []

-- What fired on the disk stands for a stop or for a fault, and the cell is the site whose memory this outlived, down with the records of it and this one, if it is
-- one, in a log that stands so.
pub record HasFallen (left : Remains) (added : Option Record) (standing : Standing) (fired : Option Bool) (new : Cell) (stops : Bool) : Type 0 where
  pub kind : fired ≡ Some stops
  pub stands : StandsForSite left.catalog left.me new
      (record { records = left.records ++ option_to_list added; standing = standing; arm = None; running = None })

module _ (catalog : Declared) (n : ℕ) (new : Cell) (is : model.Site) where
  -- All writes and syncs of the attempt are made, and the cell is the site then.
  pub record IsDone (attempt : Attempt) : Type 0 where
    pub armed : Option Arm
    pub waits : reached (calls_of attempt) is.arm ≡ waits armed
    pub stands : StandsForSite catalog n new (completed_site is attempt armed)

  -- One of them fired, which stands for a stop or for a fault, and the cell is the site then.
  pub record IsBroken (attempt : Attempt) (stops : Bool) : Type 0 where
    pub arm : Arm
    pub fires : reached (calls_of attempt) is.arm ≡ fires arm
    pub kind : arm.stops ≡ stops
    pub stands : StandsForSite catalog n new (broken_site is attempt arm)

  -- What comes of a start that isn't broken off, by the answer.
  abbrev pub HasEnded : Start → Type 0
  HasEnded answer = ((start_attempt catalog n is).lines ≡ start_line n answer ∷ []) × IsDone (start_attempt catalog n is)

  -- What comes of a start of a site that is down, by the answer.
  abbrev pub HasBegun : Start → Type 0
  HasBegun start.Up = ⊥
  HasBegun (start.Started epoch) = HasEnded (start.Started epoch)
  HasBegun (start.Full length) = HasEnded (start.Full length)
  HasBegun start.Spent = HasEnded start.Spent
  HasBegun (start.Broke stops) = IsBroken (start_attempt catalog n is) stops

module _ (catalog : Declared) (n : ℕ) (old new : Cell) (is : model.Site) where
  -- What comes of an input where the site has this in memory: it makes the step, or is broken off. One that is down stays as it is.
  abbrev pub HasStepped : Option Running → model.Input → Stepped → Type 0
  HasStepped None input made = (made ≡ Down) × (new ≡ old)
  HasStepped (Some running) input Down = ⊥
  HasStepped (Some running) input (Made answer) =
      IsAnswer answer (site_step (setup_of catalog) n is.records running input) × All (IsSpelledFrom n) answer.sends.items
      × IsDone catalog n new is (step_attempt catalog n is running input)
  HasStepped (Some running) input (Broke stops) = IsBroken catalog n new is (step_attempt catalog n is running input) stops

  -- What comes of a checkpoint where the site has this in memory: the log is packed, or that is broken off, or the number in force is the greatest. One that is down stays as it is.
  abbrev pub HasPacked : Option Running → Checkpointed → Type 0
  HasPacked None answer = (answer ≡ packed.Down) × (new ≡ old)
  HasPacked (Some running) packed.Down = ⊥
  HasPacked (Some running) packed.Done = (is.standing.number < greatest_number) × IsDone catalog n new is (of_checkpoint is.standing running)
  HasPacked (Some running) packed.Spent = (greatest_number ≤ is.standing.number) × (new ≡ old)
  HasPacked (Some running) (packed.Broke stops) = (is.standing.number < greatest_number) × IsBroken catalog n new is (of_checkpoint is.standing running) stops

  -- What comes of a stop, and whether the site was up.
  abbrev pub HasStopped : Option Running → Bool → Type 0
  HasStopped None was_up = (was_up ≡ false) × (new ≡ old)
  HasStopped (Some running) was_up = (was_up ≡ true) × StandsForSite catalog n new (record is { running = None })

  -- What comes of a start, by the answer. A site that is up stays as it is.
  abbrev pub HasStarted : Option Running → Start → Type 0
  HasStarted (Some running) answer = (answer ≡ start.Up) × (new ≡ old)
  HasStarted None answer = HasBegun catalog n new is answer
