-- What the calls of a journal come to on a disk in memory, where a fault may be armed.
use Rattle.std.specs.Prelude.{◌≡◌, ℕ, ◌+◌, ◌-◌, nat_lt, Bool, true, false, if◌then◌else◌, MatchBool, List, [], ◌∷◌, ◌++◌, Option, Some, None}
use Rattle.pv_base.specs.declared.mode.Mode.{Mode}
use Rattle.pv_base.specs.declared.mode.Mode.TheVariants.{Lost, Kept, Torn}
use Rattle.pv_disk_model.specs.Size.{Contents}
use Rattle.pv_format.specs.Journal.{IsJournal, end_of}
use Rattle.pv_disk.specs.MemDisk.{MemState}
use Rattle.pv_disk.specs.MemImage.{settled_at}
use Rattle.pv_disk.specs.declared.arms.Arm.{Arm}
use Rattle.pv_law_calls.specs.Armed.{nearer}
use Rattle.pv_journal.specs.declared.journal.Journal.{Journal}

-- The disk holds a journal with these contents, all of it synced. This is armed, this has fired, and no read is to fail.
pub record Holds (contents : Contents) (arm : Option Arm) (kind : Option Bool) (disk : MemState) : Type 0 where
  pub journal : IsJournal contents disk.image.content
  pub settled : disk.image.now ≡ settled_at disk.image.content
  pub armed : disk.arms.armed ≡ arm
  pub fired : disk.arms.fired ≡ kind
  pub reads : disk.arms.fail_read ≡ None

-- The journal isn't down, and is as long as these contents make it. On its disk this is armed, and nothing has fired.
pub record HoldsUp (contents : Contents) (armed : Option Arm) (journal : Journal MemState) : Type 0 where
  pub up : journal.down ≡ false
  pub length : journal.length ≡ end_of contents + 1
  pub disk : Holds contents armed None journal.disk

-- What so many writes and syncs come to, and whether they succeed: the disk holds the contents that they make, and what was armed is nearer; or
-- it fires in one of them, is armed no more, and the disk holds what that leaves.
abbrev pub ComesTo : ℕ → Option Arm → (made : Contents) → (left : Arm → Contents) → Bool → MemState → Type 0
ComesTo calls None made left ok disk = (ok ≡ true) × Holds made None None disk
ComesTo calls (Some arm) made left ok disk =
    MatchBool (nat_lt calls arm.left) ((ok ≡ true) × Holds made (Some (nearer calls arm)) None disk) ((ok ≡ false) × Holds (left arm) None (Some arm.stop) disk)

-- What the write of the gate leaves of an append where it fires, or the sync after it: the gate is open exactly where what was written is kept.
abbrev pub opened_in : Mode → Contents → List ℕ → Contents
opened_in Kept contents content = contents ++ content ∷ []
opened_in Lost contents content = contents
opened_in Torn contents content = contents

-- What an append leaves that fires. In the first two of its writes and syncs the gate is closed.
abbrev pub contents_left : Contents → List ℕ → Arm → Contents
contents_left contents content arm = if nat_lt 2 arm.left then opened_in arm.mode contents content else contents

-- What an append comes to: a write, a sync, a write and a sync.
abbrev pub AppendsArmed : Contents → List ℕ → Option Arm → Bool → MemState → Type 0
AppendsArmed contents content armed ok disk = ComesTo 4 armed (contents ++ content ∷ []) (contents_left contents content) ok disk

-- What a sync of a disk comes to that is synced already.
abbrev pub SyncsArmed : Contents → Option Arm → Bool → MemState → Type 0
SyncsArmed contents armed ok disk = ComesTo 1 armed contents (λ arm. contents) ok disk
