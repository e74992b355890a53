-- What the four calls of an append do to the disk.
use Rattle.std.specs.Prelude.{◌≡◌, ◌⊎◌, ℕ, ◌^◌, ◌<◌, List, [], ◌∷◌, ◌++◌, Some, length, Result, OnOk}
use Rattle.pv_disk_model.specs.DiskModel.{DiskModel}
use Rattle.pv_disk_model.specs.Disk.{Only, LeavesOnly}
use Rattle.pv_disk_model.specs.Size.{Contents}
use Rattle.pv_format.specs.Journal.{framed, IsJournal, end_of}

-- The bytes are a journal with these contents, or with one more.
abbrev pub StandsFor : Contents → List ℕ → List ℕ → Type 0
StandsFor contents content bytes = IsJournal contents bytes ⊎ IsJournal (contents ++ content ∷ []) bytes

module _ {D : Type 0} (M : DiskModel D) where
  -- The disk holds a journal with these contents, synced, whose closed gate stands at this place, and this is the frame of the content.
  pub record IsReady (disk : D) (end : ℕ) (frame : List ℕ) (contents : Contents) (content : List ℕ) (bytes : List ℕ) : Type 0 where
    pub known : M.content disk ≡ Some bytes
    pub journal : IsJournal contents bytes
    pub gate : end ≡ end_of contents
    pub framed_is : frame ≡ framed content ++ 0 ∷ []
    pub short : length content < 2 ^ 32
    pub durable : Only bytes (M.may_leave disk)

  -- At each moment a crash leaves the journal, or the one with one content more; where the calls succeeded, that one from now on.
  pub record WritesRecord {X E : Type 0} (old new : D) (contents : Contents) (content : List ℕ) (result : Result X E) : Type 0 where
    pub any_moment : LeavesOnly M old new (StandsFor contents content)
    pub done : OnOk result ((bytes : List ℕ) × (M.content new ≡ Some bytes) × IsJournal (contents ++ content ∷ []) bytes × Only bytes (M.may_leave new))
