-- A log in two areas on a disk, as a log.
use Rattle.std.specs.Prelude.{◌≡◌, ◌⊎◌, ℕ, ◌+◌, ◌≤◌, ◌<◌, ◌^◌, Bool, true, false, MatchBool, List, [], ◌∷◌, Option, Some, length, option_and_then, vec_capacity}
use Rattle.pv_base.specs.declared.limits.TheConstants.{MAX_JOURNAL, MAX_LENGTH}
use Rattle.pv_disk_model.specs.Calls.{LogCall, Makes, OnlyReads, read_all, reserve, append, make_room}
use Rattle.pv_disk_model.specs.DiskModel.{DiskModel}
use Rattle.pv_disk_model.specs.Disk.{Only}
use Rattle.pv_disk_model.specs.Size.{Contents}
use Rattle.pv_journal.specs.Journal.{append_calls}
use Rattle.pv_law_checkpoints.specs.LogContents.{log_contents_of}
use Rattle.pv_law_checkpoints.specs.Roots.{IsRoot}
use Rattle.pv_law_checkpoints.specs.TwoAreas.{greatest_place}
use Rattle.pv_ckpt.specs.Roots.{IsLogBy}
use Rattle.pv_ckpt.specs.declared.ckpt_log.CkptLog.{CkptLog}

-- The bytes are this log, by its root, its end and its length.
abbrev pub IsLogOf : {D : Type 0} → List ℕ → CkptLog D → Type 0
IsLogOf bytes log = IsLogBy bytes log.root log.end log.length

module _ {D : Type 0} (M : DiskModel D) where
  -- While the log isn't down, its disk is that log, all of it synced. Its area is as long as the log, or less.
  pub record IsIntact (log : CkptLog D) : Type 0 where
    pub starts : 9 ≤ log.length
    pub bounded : log.length ≤ MAX_LENGTH
    pub limited : log.limit ≤ MAX_JOURNAL
    pub root : IsRoot log.root.at
    pub behind_roots : 58 ≤ log.root.place
    pub in_range : log.root.place ≤ greatest_place
    pub packed : log.root.place + log.root.size ≤ log.end
    pub short : log.end + 9 ≤ log.root.place + log.length
    pub at_rest : log.down ≡ false → (bytes : List ℕ) → M.content log.disk ≡ Some bytes → IsLogOf bytes log
    pub durable : log.down ≡ false → (bytes : List ℕ) → M.content log.disk ≡ Some bytes → Only bytes (M.may_leave log.disk)

  -- The contents of the log, where the disk's bytes are known.
  abbrev pub contents_now : CkptLog D → Option Contents
  contents_now log = option_and_then log_contents_of (M.content log.disk)

  -- A crash leaves these contents, or what is no log.
  abbrev pub LeavesNow : CkptLog D → Option Contents → Type 0
  LeavesNow log left = (bytes : List ℕ) × M.may_leave log.disk bytes × (left ≡ log_contents_of bytes)

  -- The same since an earlier moment.
  abbrev pub LeavesSince : CkptLog D → ℕ → Option Contents → Type 0
  LeavesSince log t left = (bytes : List ℕ) × M.left_since log.disk t bytes × (left ≡ log_contents_of bytes)

  -- There is room for an append of a content of so many bytes, in memory, on the disk and within the limit.
  pub record HasRoom (log : CkptLog D) (content : ℕ) : Type 0 where
    pub frame : 5 + content ≤ vec_capacity log.frame
    pub room : 6 + content ≤ M.room log.disk
    pub writes : 2 ≤ M.writes log.disk
    pub within : log.length + (5 + content) ≤ log.limit

  -- A call that adds nothing leaves the log as long as it was, at the same place, with the limit that it had, and where it succeeds up or down as it was.
  pub record IsAsLong (old new : CkptLog D) (ok : Bool) : Type 0 where
    pub length : new.length ≡ old.length
    pub root : new.root ≡ old.root
    pub end : new.end ≡ old.end
    pub limit : new.limit ≡ old.limit
    pub down : ok ≡ true → new.down ≡ old.down

  -- A call that adds a content of so many bytes leaves the root in force. Where it succeeds the area ends behind the new record.
  pub record IsFurther (old new : CkptLog D) (content : ℕ) (ok : Bool) : Type 0 where
    pub root : new.root ≡ old.root
    pub end : ok ≡ true → new.end ≡ old.end + (5 + content)

  -- The calls that one call makes of the disk, and where it leaves the log. A log that is down makes none, and one without room within its limit neither. What is appended has a
  -- length of four bytes.
  abbrev pub LogGoes : CkptLog D → LogCall → Bool → CkptLog D → Type 0
  LogGoes old read_all ok new = IsAsLong old new ok × OnlyReads M.goes old.disk new.disk
  LogGoes old (reserve content) ok new =
      IsAsLong old new ok × ((new.disk ≡ old.disk) ⊎ Makes M.goes old.disk (make_room (6 + content) 2 ∷ []) ok new.disk)
  LogGoes old (append content) ok new =
      MatchBool old.down ((ok ≡ false) × (new ≡ old))
      ((length content < 2 ^ 32) × Makes M.goes old.disk (append_calls old.end content) ok new.disk × IsFurther old new (length content) ok)
