-- What a checkpoint does to the disk, and a switch to any block, at each moment and by its answer.
use Rattle.std.specs.Prelude.{◌≡◌, ◌⊎◌, ℕ, ◌+◌, ◌-◌, ◌^◌, ◌<◌, ◌≤◌, Bool, true, false, if◌then◌else◌, List, [], ◌∷◌, ◌++◌, Some, is_some, length, Result, Ok, Err, OnOk}
use Rattle.pv_base.specs.Fault.{Rose}
use Rattle.pv_disk_model.specs.Calls.{DiskCall, OnlyReads, Makes, make_room}
use Rattle.pv_disk_model.specs.DiskModel.{DiskModel}
use Rattle.pv_disk_model.specs.Disk.{Only, LeavesOnly}
use Rattle.pv_disk_model.specs.Size.{Contents, size_of}
use Rattle.pv_law_checkpoints.specs.Roots.{fields_of, number_at, other_root}
use Rattle.pv_format.specs.Checkpoint.{naming, MayLeaveInAll, Part, Standing}
use Rattle.pv_law_checkpoints.specs.Stages.{free_place, standing_at, IsBeforeOrGiven, IsNamed, IsNext, IsPacked, Stands}
use Rattle.pv_law_checkpoints.specs.TwoAreas.{block_of}
use Rattle.pv_ckpt.specs.CkptLog.{HasRoom, IsLogOf}
use Rattle.pv_ckpt.specs.Writing.{synced_write}
use Rattle.pv_ckpt.specs.declared.ckpt_error.CkptError.{CkptError}
use Rattle.pv_ckpt.specs.declared.ckpt_error.CkptError.TheVariants.{Failed, Down, Spent, NoMemory}
use Rattle.pv_ckpt.specs.declared.ckpt_log.CkptLog.{CkptLog}
use Rattle.pv_ckpt.specs.declared.roots.Root.{Root}

-- A log with these contents, which stands as a crash at some moment of a checkpoint may leave it.
abbrev pub IsLeftInAll : Standing → Contents → List ℕ → Type 0
IsLeftInAll was contents left = (now : Standing) × Stands contents now left × MayLeaveInAll was now

-- At each moment of a switch to what is given for a log's contents a crash leaves the contents before or the given ones.
abbrev pub IsLeftBySwitch : (given : Contents → Contents) → Standing → Contents → List ℕ → Type 0
IsLeftBySwitch given was before left = IsBeforeOrGiven (given before) was before left

-- What a checkpoint asks of the disk up to the closing of the other root's gate: the block with a closed gate behind it, and a 0 in that gate where it is 1, each with a sync.
abbrev pub store_and_close_calls : (other : ℕ) → (other_open : Bool) → (place : ℕ) → List ℕ → List DiskCall
store_and_close_calls other other_open place block = synced_write place block ++ (if other_open then synced_write other (0 ∷ []) else [])

-- And then: the other root's number, place and size, and a 1 in its gate, each with a sync.
abbrev pub name_and_open_calls : ℕ → List ℕ → List DiskCall
name_and_open_calls other fields = synced_write (other + 1) fields ++ synced_write other (1 ∷ [])

-- All of them. The block has a closed gate behind it.
abbrev pub checkpoint_calls : Root → ℕ → List ℕ → List DiskCall
checkpoint_calls root place block =
    store_and_close_calls (other_root root.at) root.other_open place (block ++ 0 ∷ []) ++ name_and_open_calls (other_root root.at) (fields_of (root.number + 1) place (length block))

-- Room for this block is made, and then come all of them.
abbrev pub switch_calls : Root → (end : ℕ) → List ℕ → List DiskCall
switch_calls root end block = make_room (length block + 27) 4 ∷ checkpoint_calls root (free_place (length block) root.place end) block

module _ {D : Type 0} (M : DiskModel D) where
  -- The disk holds these bytes, synced, for which this part of a checkpoint with the given contents in its block is next.
  pub record IsReadyFor (part : Part) (disk : D) (at place : ℕ) (packed later given : Contents) (bytes : List ℕ) : Type 0 where
    pub known : M.content disk ≡ Some bytes
    pub durable : Only bytes (M.may_leave disk)
    pub next : IsNext part at place packed later given bytes

  -- At each moment of the first parts of a checkpoint a crash leaves the contents before or the given ones. Where they are done, the other root is closed and is to be named next.
  pub record StoresAndCloses {X E : Type 0} (old new : D) (at place : ℕ) (packed later given : Contents) (bytes : List ℕ) (result : Result X E) : Type 0 where
    pub any_moment : LeavesOnly M old new (IsBeforeOrGiven given (standing_at bytes at) (packed ++ later))
    pub done : OnOk result ((made : List ℕ) × IsReadyFor naming new at place packed later given made × (number_at made at ≡ number_at bytes at))

  -- At each moment of these parts of a checkpoint a crash leaves the contents before or the given ones. Where they are done, the other root is in force, with the given contents
  -- in its block.
  pub record Switches {X E : Type 0} (old new : D) (at place : ℕ) (packed later given : Contents) (bytes : List ℕ) (result : Result X E) : Type 0 where
    pub any_moment : LeavesOnly M old new (IsBeforeOrGiven given (standing_at bytes at) (packed ++ later))
    pub done : OnOk result ((made : List ℕ) × (M.content new ≡ Some made) × IsPacked at given (standing_at bytes at) made
        × IsNamed made (other_root at) (number_at bytes at + 1) place (length (block_of given)) × Only made (M.may_leave new))

  -- Whatever a call answers: at each moment a crash leaves what may be left of the log's contents, by how it stood. After it the log has this length.
  pub record Leaves (may_leave : Standing → Contents → List ℕ → Type 0) (size : ℕ) (old new : CkptLog D) : Type 0 where
    pub known : is_some (M.content new.disk) ≡ is_some (M.content old.disk)
    pub any_moment : (contents : Contents) (was : Standing) (bytes : List ℕ) → M.content old.disk ≡ Some bytes → Stands contents was bytes
        → LeavesOnly M old.disk new.disk (may_leave was contents)
    pub length : new.length ≡ size
    pub limit : new.limit ≡ old.limit
    pub was_up : old.down ≡ false
    pub faults : M.faults old.disk ≤ M.faults new.disk

  -- Whatever a checkpoint answers: at each moment a crash leaves the contents, and the number in force and the other root's gate are as before, or that gate isn't 1, or both
  -- are as after a checkpoint that is done. The log is as long as it was.
  abbrev pub KeepsContents : CkptLog D → CkptLog D → Type 0
  KeepsContents old new = Leaves IsLeftInAll old.length old new

  -- The calls of the disk that a switch to this block makes, and whether they succeed.
  abbrev pub SwitchMakes : CkptLog D → CkptLog D → List ℕ → Bool → Type 0
  SwitchMakes old new block ok = ((ok ≡ false) × (new.disk ≡ old.disk)) ⊎ Makes M.goes old.disk (switch_calls old.root old.end block) ok new.disk

  -- The calls of the disk that a checkpoint makes, and whether they succeed: it reads, and switches to a block of all contents. Where they do that block is the one in force.
  pub record CheckpointMakes (old new : CkptLog D) (ok : Bool) : Type 0 where
    pub read : D
    pub reads : OnlyReads M.goes old.disk read
    pub calls : ((ok ≡ false) × (new.disk ≡ read)) ⊎ ((block : List ℕ)
        × ((contents : Contents) (was : Standing) (bytes : List ℕ) → M.content old.disk ≡ Some bytes → Stands contents was bytes → block ≡ block_of contents)
        × Makes M.goes read (switch_calls old.root old.end block) ok new.disk × (ok ≡ true → new.root.size ≡ length block))

  -- A switch that is done, to what is given for the log's contents: the other root is in force, its number is one more, and its block stands at the free place with the closed gate
  -- behind it. The block has the given contents with a gate behind it that isn't 1, whatever crash comes from now on.
  pub record IsSwitched (given : Contents → Contents) (old new : CkptLog D) : Type 0 where
    pub up : new.down ≡ false
    pub uncounted : M.faults new.disk ≡ M.faults old.disk
    pub number : new.root.number ≡ old.root.number + 1
    pub packed : (contents : Contents) (was : Standing) (bytes : List ℕ) → M.content old.disk ≡ Some bytes → Stands contents was bytes
        → (made : List ℕ) × (M.content new.disk ≡ Some made) × IsPacked old.root.at (given contents) was made × Only made (M.may_leave new.disk)
    pub at : new.root.at ≡ other_root old.root.at
    pub place : new.root.place ≡ free_place new.root.size old.root.place old.end
    pub other : new.root.other_open ≡ true
    pub end : new.end ≡ new.root.place + new.root.size

  -- A checkpoint that is done: all contents are in its block.
  abbrev pub IsDone : CkptLog D → CkptLog D → Type 0
  IsDone old new = IsSwitched (λ contents. contents) old new

  -- A checkpoint in which the disk failed.
  pub record HasFailed (old new : CkptLog D) : Type 0 where
    pub down : new.down ≡ true
    pub rose : Rose (M.faults old.disk) (M.faults new.disk)

  -- A checkpoint for which there was no memory: the log is as it was, and room that was made for an append stays.
  pub record IsUnchanged (old new : CkptLog D) : Type 0 where
    pub up : new.down ≡ false
    pub uncounted : M.faults new.disk ≡ M.faults old.disk
    pub root : new.root ≡ old.root
    pub end : new.end ≡ old.end
    pub content : M.content new.disk ≡ M.content old.disk
    pub crash : LeavesOnly M old.disk new.disk (M.may_leave old.disk)
    pub room : (content : ℕ) → HasRoom M old content → HasRoom M new content

  -- This block has what is given for the log's contents, and a log of these has this length.
  abbrev pub IsBlockFor : CkptLog D → (given : Contents → Contents) → List ℕ → ℕ → Type 0
  IsBlockFor log given block size =
      (bytes : List ℕ) → M.content log.disk ≡ Some bytes → (is : IsLogOf bytes log) → (block ≡ block_of (given (is.0 ++ is.1))) × (size ≡ size_of (given (is.0 ++ is.1)))

  -- A switch to a block of what is given for the log's contents, by its answer.
  abbrev pub SwitchesTo : {X : Type 0} → (given : Contents → Contents) → CkptLog D → CkptLog D → List ℕ → ℕ → Result X CkptError → Type 0
  SwitchesTo given old new block size (Ok _) =
      Leaves (IsLeftBySwitch given) size old new × IsSwitched given old new × SwitchMakes old new block true × (new.root.size ≡ length block)
  SwitchesTo given old new block size (Err Failed) = Leaves (IsLeftBySwitch given) old.length old new × HasFailed old new × SwitchMakes old new block false
  SwitchesTo given old new block size (Err NoMemory) = Leaves (IsLeftBySwitch given) old.length old new × IsUnchanged old new × SwitchMakes old new block false
  SwitchesTo given old new block size (Err _) = ⊥

  -- A checkpoint, by its answer. The count of faults rose where the disk failed, and else it stays. It is spent exactly where the number in force is the greatest.
  abbrev pub Checkpoints : {X : Type 0} → CkptLog D → CkptLog D → Result X CkptError → Type 0
  Checkpoints old new (Ok _) = KeepsContents old new × IsDone old new × CheckpointMakes old new true × (old.root.number < 2 ^ 64 - 1)
  Checkpoints old new (Err Failed) = KeepsContents old new × HasFailed old new × CheckpointMakes old new false × (old.root.number < 2 ^ 64 - 1)
  Checkpoints old new (Err NoMemory) = KeepsContents old new × IsUnchanged old new × CheckpointMakes old new false × (old.root.number < 2 ^ 64 - 1)
  Checkpoints old new (Err Down) = (old.down ≡ true) × (new ≡ old)
  Checkpoints old new (Err Spent) = (old.down ≡ false) × (new ≡ old) × (old.root.number ≡ 2 ^ 64 - 1)
