-- What a decider of the run is in memory, and what an input, a stop and a start make of it.
use Rattle.std.specs.Prelude.{◌≡◌, ℕ, Bool, true, false, List, [], ◌++◌, All, map, Option, Some, None}
use Rattle.std.specs.Option.{option_to_list}
use Rattle.pv_base.specs.declared.limits.TheConstants.{MAX_JOURNAL}
use Rattle.pv_ckpt.specs.Armed.{Holds, HoldsUp}
use Rattle.pv_ckpt.specs.CkptLog.{IsIntact}
use Rattle.pv_ckpt.specs.CkptModel.{ckpt_model}
use Rattle.pv_ckpt.specs.declared.ckpt_log.CkptLog.{CkptLog}
use Rattle.pv_disk.specs.MemDisk.{MemState}
use Rattle.pv_disk.specs.MemLaws.{mem_model}
use Rattle.pv_disk.specs.declared.arms.Arm.{Arm}
use Rattle.pv_disk_model.specs.Size.{Contents}
use Rattle.pv_format.specs.Checkpoint.{Standing}
use Rattle.pv_law_decisions.specs.Scene.{ending_by, reached_by}
use Rattle.pv_law_quorum.specs.Decider.{Answer, Entry, Input, step}
use Rattle.pv_law_quorum.specs.Record.{Record}
use Rattle.pv_law_quorum.specs.World.{Ending, whole, broken}
use Rattle.pv_moored.specs.Reached.{waits, fires, reached}
use Rattle.pv_quorum.specs.DeciderState.{DeciderState, IsReady, StandsFor, setup_of}
use Rattle.pv_quorum.specs.Spelling.{IsInRange, record_bytes}
use Rattle.pv_quorum.specs.Steps.{Gives}
use Rattle.pv_quorum_run.specs.declared.cell.Cell.{Cell}
use Rattle.pv_quorum_run.specs.declared.cell.Cell.TheVariants.{Up, Down, Vacant}
use Rattle.pv_quorum_run.specs.declared.cell.Start.{Start}
use Rattle.pv_quorum_run.specs.declared.cell.Start.TheVariants as start
use Rattle.pv_quorum_run.specs.declared.cell.Stepped.{Stepped}
use Rattle.pv_quorum_run.specs.declared.cell.Stepped.TheVariants as stepped

-- What a decider of the run is: its records, what it has in memory where it is up, and what is armed at its disk.
pub record Seat : Type 0 where
  pub records : List Record
  pub memory : Option (List Entry)
  pub arm : Option Arm

-- a decider as a run begins
abbrev pub first_seat : Seat
first_seat = record { records = []; memory = Some []; arm = None }

-- the contents of a log of these records
abbrev pub contents_by : List Record → Contents
contents_by records = map record_bytes records

-- The decider that is up is this one, and its log holds its records.
pub record IsUpAs (count me : ℕ) (up : DeciderState (CkptLog MemState)) (seat : Seat) : Type 0 where
  pub me_is : up.me ≡ me
  pub count_is : up.count ≡ count
  pub entries : List Entry
  pub memory : seat.memory ≡ Some entries
  pub stands : StandsFor (ckpt_model mem_model) up (record { me = me; records = seat.records; entries = entries })
  pub ready : IsReady (ckpt_model mem_model) up
  pub limit : up.log.limit ≡ MAX_JOURNAL
  pub standing : Standing
  pub holds : HoldsUp (contents_by seat.records) standing seat.arm up.log

-- The disk is that of this decider, which is down.
pub record IsDownAs (disk : MemState) (seat : Seat) : Type 0 where
  pub memory : seat.memory ≡ None
  pub range : All IsInRange seat.records
  pub standing : Standing
  pub holds : Holds (contents_by seat.records) standing seat.arm None disk

-- The cell is this decider, which has this number, of so many.
abbrev pub StandsForSeat : ℕ → ℕ → Cell → Seat → Type 0
StandsForSeat count me (Up up) seat = IsUpAs count me up seat
StandsForSeat count me (Down disk) seat = IsDownAs disk seat
StandsForSeat count me Vacant seat = ⊥

-- The log that was just opened is that of this decider.
pub record IsOpenLog (log : CkptLog MemState) (seat : Seat) : Type 0 where
  pub range : All IsInRange seat.records
  pub intact : IsIntact mem_model log
  pub limit : log.limit ≡ MAX_JOURNAL
  pub standing : Standing
  pub holds : HoldsUp (contents_by seat.records) standing seat.arm log

-- What becomes of a decider whose disk failed: the cell is its disk, on which nothing is armed any more, and what fired is told.
abbrev pub Breaks : DeciderState (CkptLog MemState) → Cell × Stepped → Type 0
Breaks up (Down disk, stepped.Broke stops) =
    (contents : Contents) (standing : Standing) (armed : Option Arm) (fired : Option Bool) → Holds contents standing armed fired up.log.disk
    → (fired ≡ Some stops) × Holds contents standing None None disk
Breaks up _ = ⊥

-- the decider after a step, by how that ends
abbrev pub seat_after : Seat → Answer → Ending → Option Arm → Seat
seat_after seat answer whole rest = record { records = seat.records ++ option_to_list answer.appended; memory = Some answer.entries; arm = rest }
seat_after seat answer (broken true) rest = record { records = seat.records ++ option_to_list answer.appended; memory = None; arm = rest }
seat_after seat answer (broken false) rest = record { records = seat.records; memory = None; arm = rest }

-- what the decider makes of an input, where it has this in memory
abbrev pub seat_answer : ℕ → ℕ → Seat → Input → List Entry → Answer
seat_answer count me seat input entries = step (setup_of count MAX_JOURNAL) (record { me = me; records = seat.records; entries = entries }) input

module _ (count me : ℕ) (old new : Cell) (seat : Seat) where
  -- What comes of an input where the decider has this in memory: it makes the step, or is broken off. One that is down stays as it is.
  abbrev pub HasStepped : Option (List Entry) → Input → Stepped → Type 0
  HasStepped None input made = (made ≡ stepped.Down) × (new ≡ old)
  HasStepped (Some entries) input stepped.Down = ⊥
  HasStepped (Some entries) input (stepped.Made made) =
      let answer = seat_answer count me seat input entries in
      (rest : Option Arm) × (reached_by answer.appended seat.arm ≡ waits rest) × Gives me made answer × StandsForSeat count me new (seat_after seat answer whole rest)
  HasStepped (Some entries) input (stepped.Broke stops) =
      let answer = seat_answer count me seat input entries in
      (arm : Arm) × (reached_by answer.appended seat.arm ≡ fires arm) × (arm.stop ≡ stops) × StandsForSeat count me new (seat_after seat answer (ending_by arm) None)

  -- What comes of a stop, and whether the decider was up.
  abbrev pub HasStopped : Option (List Entry) → Bool → Type 0
  HasStopped None was_up = (was_up ≡ false) × (new ≡ old)
  HasStopped (Some entries) was_up = (was_up ≡ true) × StandsForSeat count me new (record seat { memory = None })

-- What comes of a start of a decider that is down.
abbrev pub HasBegun : ℕ → ℕ → Cell → Seat → Start → Type 0
HasBegun count me new seat start.Up = ⊥
HasBegun count me new seat start.Started = (rest : Option Arm) × (reached 1 seat.arm ≡ waits rest) × StandsForSeat count me new (record seat { memory = Some []; arm = rest })
HasBegun count me new seat (start.Broke stops) =
    (arm : Arm) × (reached 1 seat.arm ≡ fires arm) × (arm.stop ≡ stops) × StandsForSeat count me new (record seat { arm = None })

-- What comes of a start. A decider that is up stays as it is.
abbrev pub HasStarted : ℕ → ℕ → (old new : Cell) → Seat → Option (List Entry) → Start → Type 0
HasStarted count me old new seat (Some entries) answer = (answer ≡ start.Up) × (new ≡ old)
HasStarted count me old new seat None answer = HasBegun count me new seat answer
