-- What opening, looking at and making a log in two areas do.
use Rattle.std.specs.Prelude.{◌≡◌, ◌⊎◌, ℕ, ◌≤◌, Bool, true, false, List, [], ◌∷◌, Some, is_some, Result, Ok, Err, Vec, ⊤}
use Rattle.std.specs.declared.alloc.Global.{Global}
use Rattle.pv_base.specs.Fault.{Rose}
use Rattle.pv_base.specs.Answer.{Answers}
use Rattle.pv_disk_model.specs.Calls.{DiskCall, Makes, make_room, write, sync}
use Rattle.pv_disk_model.specs.DiskModel.{DiskModel}
use Rattle.pv_disk_model.specs.Disk.{Only, LeavesOnly, LeftTorn}
use Rattle.pv_disk.specs.declared.disk_error.LookError.{LookError}
use Rattle.pv_disk.specs.declared.disk_error.LookError.TheVariants.{NotOurs as LookNotOurs}
use Rattle.pv_disk.specs.declared.log_error.LogError.{LogError}
use Rattle.pv_disk.specs.declared.log_error.LogError.TheVariants.{NotOurs as LogNotOurs}
use Rattle.pv_disk.specs.declared.disk_error.DiskError.{DiskError}
use Rattle.pv_disk.specs.declared.disk_error.DiskError.TheVariants.{Failed as DiskFailed, NoMemory as DiskNoMemory}
use Rattle.pv_journal.specs.Opening.{contents_in, place_in, Opened, SyncsAndReads}
use Rattle.pv_law_calls.specs.Reading.{Gave}
use Rattle.pv_law_checkpoints.specs.TwoAreas.{IsTwoAreas, IsNotOurs, formatted}
use Rattle.pv_ckpt.specs.CkptLog.{IsIntact}
use Rattle.pv_ckpt.specs.Outline.{GaveOutline, GaveNoOutline}
use Rattle.pv_ckpt.specs.Reading.{IsReadOf}
use Rattle.pv_ckpt.specs.declared.ckpt_log.CkptLog.{CkptLog}
use Rattle.pv_ckpt.specs.declared.open_ckpt.OpenCkpt.{OpenCkpt}
use Rattle.pv_ckpt.specs.declared.open_ckpt.OpenCkpt.TheVariants.{Failed, NotOurs, NoMemory}

-- The answer is that of these bytes: the contents exactly where they are a log with these, and the refusal exactly where it shows at that place that they are none.
abbrev pub AnswersOf : List ℕ → Result (Vec (Vec ℕ Global) Global) LookError → Type 0
AnswersOf bytes result = Answers (λ contents. IsTwoAreas contents bytes) (IsNotOurs bytes) contents_in place_in result

module _ {D : Type 0} (M : DiskModel D) where
  -- Where a reading gives contents or tells that there are none, it answers exactly of what its own reads gave: of bytes of which they are all that stands before the
  -- area in force and in it.
  abbrev pub AnswersOfReads : D → D → Result (Vec (Vec ℕ Global) Global) LookError → Type 0
  AnswersOfReads old new (Ok all) = Gave M old new (λ read. (bytes : List ℕ) × IsReadOf bytes read × AnswersOf bytes (Ok all))
  AnswersOfReads old new (Err (LookNotOurs place)) = Gave M old new (λ read. (bytes : List ℕ) × IsReadOf bytes read × AnswersOf bytes (Err (LookNotOurs place)))
  AnswersOfReads old new (Err _) = ⊤

  -- So does a log that reads all of its contents.
  abbrev pub AnswersAllOfReads : D → D → Result (Vec (Vec ℕ Global) Global) LogError → Type 0
  AnswersAllOfReads old new (Ok all) = AnswersOfReads old new (Ok all)
  AnswersAllOfReads old new (Err (LogNotOurs place)) = AnswersOfReads old new (Err (LookNotOurs place))
  AnswersAllOfReads old new (Err _) = ⊤

  -- An opening, by its answer. A sync comes first, and where it succeeds calls that only read. The log has the contents of the disk's bytes, or they are none, and it shows at
  -- that place. The count of faults rose where the disk failed, and else it stays. What the reads gave is that log but for its contents, or it shows at that place that it is none.
  abbrev pub Opens : D → ℕ → Result (CkptLog D) (OpenCkpt D) → Type 0
  Opens old limit (Ok log) =
      Opened M old log.disk × SyncsAndReads M old log.disk × (M.content log.disk ≡ M.content old) × IsIntact M log × (log.down ≡ false)
      × (log.limit ≡ limit) × (M.faults log.disk ≡ M.faults old)
      × GaveOutline M old log.disk log.root log.end log.length
  Opens old limit (Err (Failed disk)) = Opened M old disk × (M.goes old sync false disk ⊎ SyncsAndReads M old disk) × Rose (M.faults old) (M.faults disk)
  Opens old limit (Err (NotOurs disk place)) =
      Opened M old disk × SyncsAndReads M old disk × (M.content disk ≡ M.content old) × ((bytes : List ℕ) → M.content old ≡ Some bytes → IsNotOurs bytes place)
      × (M.faults disk ≡ M.faults old) × GaveNoOutline M old disk place
  Opens old limit (Err (NoMemory disk)) = Opened M old disk × SyncsAndReads M old disk × (M.content disk ≡ M.content old) × (M.faults disk ≡ M.faults old)

  -- What making an empty log asks of the disk.
  abbrev pub format_calls : List DiskCall
  format_calls = make_room 59 1 ∷ write 0 formatted ∷ sync ∷ []

  -- What making an empty log leaves of the disk, whatever the answer: at each moment a crash leaves what it might have left before, torn in the first 59 bytes.
  pub record Formatted (old new : D) (ok : Bool) : Type 0 where
    pub known : is_some (M.content new) ≡ is_some (M.content old)
    pub any_moment : LeavesOnly M old new (LeftTorn M old 0 59)
    pub faults : M.faults old ≤ M.faults new
    pub calls : Makes M.goes old format_calls ok new

  -- Making an empty log on an empty disk, by its answer: it is there, and each crash from now on leaves it; or the disk failed; or it is empty still, and so is
  -- what a crash leaves, if it was. The count of faults rose where the disk failed, and else it stays.
  abbrev pub Formats : {X : Type 0} → D → D → Result X DiskError → Type 0
  Formats old new (Ok _) =
      Formatted old new true × ((held : List ℕ) → M.content old ≡ Some held → (M.content new ≡ Some formatted) × Only formatted (M.may_leave new))
      × (M.faults new ≡ M.faults old)
  Formats old new (Err DiskFailed) = Formatted old new false × Rose (M.faults old) (M.faults new)
  Formats old new (Err DiskNoMemory) = Formatted old new false × (M.content new ≡ M.content old) × LeavesOnly M old new (M.may_leave old) × (M.faults new ≡ M.faults old)
