-- What opening, looking at and making a journal do.
use Rattle.std.specs.Prelude.{◌≡◌, ◌⊎◌, ℕ, ◌≤◌, ◌+◌, Bool, true, false, List, [], ◌∷◌, ◌++◌, Option, Some, None, is_some, map, Result, Ok, Err, Vec, ⊤}
use Rattle.std.specs.declared.alloc.Global.{Global}
use Rattle.pv_base.specs.Fault.{Rose}
use Rattle.pv_disk_model.specs.Calls.{DiskCall, OnlyReads, Makes, make_room, write, sync}
use Rattle.pv_disk_model.specs.DiskModel.{DiskModel}
use Rattle.pv_disk_model.specs.Disk.{Only, LeavesOnly, LeftTorn}
use Rattle.pv_disk_model.specs.Size.{Contents}
use Rattle.pv_disk.specs.declared.disk_error.LookError.{LookError}
use Rattle.pv_disk.specs.declared.disk_error.LookError.TheVariants.{Failed as LookFailed, NotOurs as LookNotOurs, NoMemory as LookNoMemory}
use Rattle.pv_disk.specs.declared.log_error.LogError.{LogError}
use Rattle.pv_disk.specs.declared.log_error.LogError.TheVariants.{NotOurs as LogNotOurs}
use Rattle.pv_disk.specs.declared.disk_error.DiskError.{DiskError}
use Rattle.pv_disk.specs.declared.disk_error.DiskError.TheVariants.{Failed as DiskFailed, NoMemory as DiskNoMemory}
use Rattle.pv_base.specs.Answer.{Answers}
use Rattle.pv_format.specs.Journal.{header, IsJournal, IsNotOurs}
use Rattle.pv_journal.specs.Outline.{OutlinesJournal, OutlinesNone}
use Rattle.pv_law_calls.specs.Reading.{Gave}
use Rattle.pv_journal.specs.Journal.{IsIntact}
use Rattle.pv_journal.specs.declared.journal.Journal.{Journal}
use Rattle.pv_journal.specs.declared.open_log.OpenLog.{OpenLog}
use Rattle.pv_journal.specs.declared.open_log.OpenLog.TheVariants.{Failed, NotOurs, NoMemory}

-- The contents of read records.
abbrev pub contents_in : Vec (Vec ℕ Global) Global → Contents
contents_in all = map (λ it. it.items) all.items

-- The place that a refusal reports, where it is that there is no journal.
abbrev pub place_in : LookError → Option ℕ
place_in (LookNotOurs place) = Some place
place_in LookFailed = None
place_in LookNoMemory = None

-- An empty journal: the header and a closed gate.
abbrev pub empty_journal : List ℕ
empty_journal = header ++ 0 ∷ []

module _ {D : Type 0} (M : DiskModel D) where
  -- A sync succeeded, and then there were calls that only read.
  abbrev pub SyncsAndReads : D → D → Type 0
  SyncsAndReads old new = (mid : D) × M.goes old sync true mid × OnlyReads M.goes mid new

  -- What an opening leaves of the disk: at each moment a crash leaves what it might have left before.
  pub record Opened (old new : D) : Type 0 where
    pub known : is_some (M.content new) ≡ is_some (M.content old)
    pub any_moment : LeavesOnly M old new (M.may_leave old)
    pub faults : M.faults old ≤ M.faults new

  -- Where a reading gives contents or tells that there are none, it answers exactly of what its own reads gave, one after another: they are a journal with these contents,
  -- or it shows at that place that they are none.
  abbrev pub AnswersOfReads : D → D → Result (Vec (Vec ℕ Global) Global) LookError → Type 0
  AnswersOfReads old new (Ok all) = Gave M old new (λ read. Answers (λ contents. IsJournal contents read) (IsNotOurs read) contents_in place_in (Ok all))
  AnswersOfReads old new (Err (LookNotOurs place)) = Gave M old new (λ read. Answers (λ contents. IsJournal contents read) (IsNotOurs read) contents_in place_in (Err (LookNotOurs place)))
  AnswersOfReads old new (Err _) = ⊤

  -- So does a journal that reads all of its contents.
  abbrev pub AnswersAllOfReads : D → D → Result (Vec (Vec ℕ Global) Global) LogError → Type 0
  AnswersAllOfReads old new (Ok all) = AnswersOfReads old new (Ok all)
  AnswersAllOfReads old new (Err (LogNotOurs place)) = AnswersOfReads old new (Err (LookNotOurs place))
  AnswersAllOfReads old new (Err _) = ⊤

  -- An opening, by its answer. A sync comes first, and where it succeeds calls that only read. The journal has the contents of the disk's bytes, or they are none, and it shows at that place.
  -- The count of faults rose where the disk failed, and else it stays. What the reads gave is a journal but for its contents, or it shows at that place that it is none.
  abbrev pub Opens : D → ℕ → Result (Journal D) (OpenLog D) → Type 0
  Opens old limit (Ok journal) =
      Opened old journal.disk × SyncsAndReads old journal.disk × (M.content journal.disk ≡ M.content old) × IsIntact M journal × (journal.down ≡ false)
      × (journal.limit ≡ limit) × (M.faults journal.disk ≡ M.faults old)
      × ((end : ℕ) × (journal.length ≡ end + 1) × Gave M old journal.disk (λ read. OutlinesJournal read end))
  Opens old limit (Err (Failed disk)) = Opened old disk × (M.goes old sync false disk ⊎ SyncsAndReads old disk) × Rose (M.faults old) (M.faults disk)
  Opens old limit (Err (NotOurs disk place)) =
      Opened old disk × SyncsAndReads old disk × (M.content disk ≡ M.content old) × ((bytes : List ℕ) → M.content old ≡ Some bytes → IsNotOurs bytes place)
      × (M.faults disk ≡ M.faults old) × Gave M old disk (λ read. OutlinesNone read place)
  Opens old limit (Err (NoMemory disk)) = Opened old disk × SyncsAndReads old disk × (M.content disk ≡ M.content old) × (M.faults disk ≡ M.faults old)

  -- What making an empty journal asks of the disk.
  abbrev pub format_calls : List DiskCall
  format_calls = make_room 9 1 ∷ write 0 empty_journal ∷ sync ∷ []

  -- What making an empty journal leaves of the disk, whatever the answer: at each moment a crash leaves what it might have left before, torn in the nine bytes.
  pub record Formatted (old new : D) (ok : Bool) : Type 0 where
    pub known : is_some (M.content new) ≡ is_some (M.content old)
    pub any_moment : LeavesOnly M old new (LeftTorn M old 0 9)
    pub faults : M.faults old ≤ M.faults new
    pub calls : Makes M.goes old format_calls ok new

  -- Making an empty journal on an empty disk, by its answer: it is there, and each crash from now on leaves it; or the disk failed; or it is empty still, and so is
  -- what a crash leaves, if it was. The count of faults rose where the disk failed, and else it stays.
  abbrev pub Formats : {X : Type 0} → D → D → Result X DiskError → Type 0
  Formats old new (Ok _) =
      Formatted old new true × ((held : List ℕ) → M.content old ≡ Some held → (M.content new ≡ Some empty_journal) × Only empty_journal (M.may_leave new))
      × (M.faults new ≡ M.faults old)
  Formats old new (Err DiskFailed) = Formatted old new false × Rose (M.faults old) (M.faults new)
  Formats old new (Err DiskNoMemory) = Formatted old new false × (M.content new ≡ M.content old) × LeavesOnly M old new (M.may_leave old) × (M.faults new ≡ M.faults old)
