-- What the four calls of an append do to the disk.
use Rattle.std.specs.Prelude.{◌≡◌, ℕ, ◌<◌, ◌^◌, List, [], ◌∷◌, ◌++◌, Some, length, Result, OnOk}
use Rattle.pv_disk_model.specs.DiskModel.{DiskModel}
use Rattle.pv_disk_model.specs.Disk.{Only, LeavesOnly}
use Rattle.pv_disk_model.specs.Size.{Contents}
use Rattle.pv_law_checkpoints.specs.Appending.{AreSameRoots, frame_of, IsWithOrWithout}
use Rattle.pv_law_checkpoints.specs.TwoAreas.{end_at, IsLog}

-- The log as before or with one content more, with both roots as before.
abbrev pub StandsFor : (at : ℕ) → (packed later : Contents) → (content bytes left : List ℕ) → Type 0
StandsFor at packed later content bytes left = IsWithOrWithout at packed later content left × AreSameRoots bytes left at

module _ {D : Type 0} (M : DiskModel D) where
  -- The disk holds a log with these contents, synced, whose closed gate stands at this place, and this is the frame of the content.
  pub record IsReady (disk : D) (end : ℕ) (frame : List ℕ) (at : ℕ) (packed later : Contents) (content bytes : List ℕ) : Type 0 where
    pub known : M.content disk ≡ Some bytes
    pub log : IsLog at packed later bytes
    pub gate : end ≡ end_at bytes at later
    pub framed_is : frame ≡ frame_of content
    pub short : length content < 2 ^ 32
    pub durable : Only bytes (M.may_leave disk)

  -- At each moment a crash leaves the log, or the one with one content more, with both roots as before; where the calls succeeded, that one from now on.
  pub record WritesRecord {X E : Type 0} (old new : D) (at : ℕ) (packed later : Contents) (content bytes : List ℕ) (result : Result X E) : Type 0 where
    pub any_moment : LeavesOnly M old new (StandsFor at packed later content bytes)
    pub done : OnOk result ((made : List ℕ) × (M.content new ≡ Some made) × IsLog at packed (later ++ content ∷ []) made × AreSameRoots bytes made at × Only made (M.may_leave new))
