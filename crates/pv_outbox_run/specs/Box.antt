-- An outbox over a disk in memory, as definitions see it, and what becomes of a record that is to be written.
use Rattle.std.specs.Prelude.{◌≡◌, ◌⊎◌, ℕ, ◌+◌, ◌<◌, ◌≤◌, nat_lt, Bool, true, false, ◌&&◌, if◌then◌else◌, List, [], ◌∷◌, ◌++◌, length, Option, None}
use Rattle.pv_base.specs.declared.limits.TheConstants.{MAX_JOURNAL}
use Rattle.pv_disk.specs.declared.arms.Arm.{Arm}
use Rattle.pv_disk_model.specs.Size.{Contents, size_of}
use Rattle.pv_law_outbox.specs.State.{Record}
use Rattle.pv_moored.specs.Reached.{Reached, reached, waits, fires}
use Rattle.pv_outbox.specs.Spelling.{SpellRecords, SpellsRecord}
use Rattle.pv_outbox_run.specs.ToldText.{broke}
use Rattle.pv_outbox_run.specs.declared.told.Told.{Told}
use Rattle.pv_outbox_run.specs.declared.told.Told.TheVariants.{Full}
use Rattle.pv_protocol.specs.Arms.{is_kept}

-- The records on its disk, the oldest first; what is armed there; and whether it is up.
pub record Box : Type 0 where
  pub entries : List Record
  pub armed : Option Arm
  pub is_up : Bool

-- At the beginning it is up, over a disk that was empty.
abbrev pub first_box : Box
first_box = record { entries = []; armed = None; is_up = true }

-- A log with these records has this length with one more.
pub record HasLength (entries : List Record) (entry : Record) (count : ℕ) : Type 0 where
  pub contents : Contents
  pub spelled : SpellRecords entries contents
  pub bytes : List ℕ
  pub one : SpellsRecord entry bytes
  pub is : count ≡ size_of contents + (5 + length bytes)

-- A record is there where what is armed fires in the third or the fourth write or sync of its append, and what was written is kept.
abbrev pub is_left_by : Arm → Bool
is_left_by arm = nat_lt 2 arm.left && is_kept arm.mode

-- the records then
abbrev pub entries_left : List Record → Record → Arm → List Record
entries_left entries entry arm = if is_left_by arm then entries ++ entry ∷ [] else entries

-- What becomes of a record that is appended, by what becomes of what is armed in the four writes and syncs: it is there, and the call is answered; or the outbox is down, and the record is
-- there or isn't.
abbrev pub AppendsBy : Reached → Box → Record → Told → Told → Box → Type 0
AppendsBy (waits rest) old entry answer told new =
    (told ≡ answer) × (new ≡ record { entries = old.entries ++ entry ∷ []; armed = rest; is_up = true })
AppendsBy (fires arm) old entry answer told new =
    (told ≡ broke arm.stop) × (new ≡ record { entries = entries_left old.entries entry arm; armed = None; is_up = false })

-- A record is to be written, and then a call is to be answered so. Where the log would be longer than its limit nothing changes.
abbrev pub Writes : Box → Record → Told → Told → Box → Type 0
Writes old entry answer told new =
    (count : ℕ) × HasLength old.entries entry count
    × (((count ≤ MAX_JOURNAL) × AppendsBy (reached 4 old.armed) old entry answer told new) ⊎ ((MAX_JOURNAL < count) × (told ≡ Full count) × (new ≡ old)))
