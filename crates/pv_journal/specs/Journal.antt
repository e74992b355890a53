-- A journal on a disk as a log.
use Rattle.std.specs.Prelude.{◌≡◌, ◌⊎◌, ℕ, ◌+◌, ◌-◌, ◌≤◌, ◌<◌, ◌^◌, Bool, true, false, MatchBool, List, [], ◌∷◌, ◌++◌, Option, Some, length, option_and_then, vec_capacity}
use Rattle.pv_base.specs.declared.limits.TheConstants.{MAX_JOURNAL, MAX_LENGTH}
use Rattle.pv_disk_model.specs.Calls.{DiskCall, LogCall, Makes, OnlyReads, read_all, reserve, append, make_room, write, sync}
use Rattle.pv_disk_model.specs.DiskModel.{DiskModel}
use Rattle.pv_disk_model.specs.Disk.{Only}
use Rattle.pv_disk_model.specs.Size.{Contents}
use Rattle.pv_format.specs.Journal.{framed, IsJournal, end_of}
use Rattle.pv_format.specs.JournalContents.{contents_of}
use Rattle.pv_journal.specs.declared.journal.Journal.{Journal}

-- What an append at a closed gate asks of the disk, in this order: the frame after the gate, a sync, the gate, a sync.
abbrev pub frame_calls : ℕ → List ℕ → List DiskCall
frame_calls end frame = write (end + 1) frame ∷ sync ∷ write end (1 ∷ []) ∷ sync ∷ []

-- The frame is the content with its length before it and a closed gate after it.
abbrev pub append_calls : ℕ → List ℕ → List DiskCall
append_calls end content = frame_calls end (framed content ++ 0 ∷ [])

module _ {D : Type 0} (M : DiskModel D) where
  -- While the journal isn't down, its disk is a journal of that length up to its closed gate, all of it synced.
  pub record IsIntact (journal : Journal D) : Type 0 where
    pub starts : 9 ≤ journal.length
    pub bounded : journal.length ≤ MAX_LENGTH
    pub limited : journal.limit ≤ MAX_JOURNAL
    pub at_rest : journal.down ≡ false → (bytes : List ℕ) → M.content journal.disk ≡ Some bytes
        → (contents : Contents) × IsJournal contents bytes × (journal.length ≡ end_of contents + 1)
    pub durable : journal.down ≡ false → (bytes : List ℕ) → M.content journal.disk ≡ Some bytes → Only bytes (M.may_leave journal.disk)

  -- The contents of the journal, where the disk's bytes are known.
  abbrev pub contents_now : Journal D → Option Contents
  contents_now journal = option_and_then contents_of (M.content journal.disk)

  -- A crash leaves these contents, or what is no journal.
  abbrev pub LeavesNow : Journal D → Option Contents → Type 0
  LeavesNow journal left = (bytes : List ℕ) × M.may_leave journal.disk bytes × (left ≡ contents_of bytes)

  -- The same since an earlier moment.
  abbrev pub LeavesSince : Journal D → ℕ → Option Contents → Type 0
  LeavesSince journal t left = (bytes : List ℕ) × M.left_since journal.disk t bytes × (left ≡ contents_of bytes)

  -- There is room for an append of a content of so many bytes, in memory, on the disk and within the limit.
  pub record HasRoom (journal : Journal D) (content : ℕ) : Type 0 where
    pub frame : 5 + content ≤ vec_capacity journal.frame
    pub room : 6 + content ≤ M.room journal.disk
    pub writes : 2 ≤ M.writes journal.disk
    pub within : journal.length + (5 + content) ≤ journal.limit

  -- A call that adds nothing leaves the journal as long as it was, with the limit that it had, and where it succeeds up or down as it was.
  pub record IsAsLong (old new : Journal D) (ok : Bool) : Type 0 where
    pub length : new.length ≡ old.length
    pub limit : new.limit ≡ old.limit
    pub down : ok ≡ true → new.down ≡ old.down

  -- The calls that one call makes of the disk. A journal that is down makes none, and one without room within its limit neither. What is
  -- appended has a length of four bytes.
  abbrev pub JournalGoes : Journal D → LogCall → Bool → Journal D → Type 0
  JournalGoes old read_all ok new = IsAsLong old new ok × OnlyReads M.goes old.disk new.disk
  JournalGoes old (reserve content) ok new =
      IsAsLong old new ok × ((new.disk ≡ old.disk) ⊎ Makes M.goes old.disk (make_room (6 + content) 2 ∷ []) ok new.disk)
  JournalGoes old (append content) ok new =
      MatchBool old.down ((ok ≡ false) × (new ≡ old)) ((length content < 2 ^ 32) × Makes M.goes old.disk (append_calls (old.length - 1) content) ok new.disk)
