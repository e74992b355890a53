-- Which file a host may hold that writes what it is told, and what a crash leaves of it.
use Rattle.std.specs.Prelude.{◌≡◌, ◌≢◌, ◌⊎◌, ℕ, ◌≤◌, Bool, true, false, List, [], ◌∷◌, ◌++◌, Some, length}
use Rattle.pv_disk_model.specs.Disk.{Torn}
use Rattle.pv_disk_model.specs.Size.{Contents, size_of}
use Rattle.pv_format.specs.Journal.{header, records_of, AreShort, IsJournal}
use Rattle.pv_host.specs.HostLog.{HostState, HostWrite, behind_gate_of, contents_of, next_write}

-- What stands behind the gate after what is stored, once the host has told that the records of the group stand there: they do.
abbrev pub StandsBehind : Contents → List ℕ → Type 0
StandsBehind [] rest = ⊥
StandsBehind (first ∷ later) rest = (more : List ℕ) × (rest ≡ behind_gate_of (first ∷ later) ++ more)

-- The same, whether it has told so or not. Before that the gate is closed, and anything may stand behind it; after it the gate may be open.
abbrev pub StandsAtGate : Contents → Bool → ℕ → List ℕ → Type 0
StandsAtGate asked false gate rest = gate ≢ 1
StandsAtGate asked true gate rest = StandsBehind asked rest

-- A file that the host may hold: the header, what is stored, a gate and what comes after it.
pub record IsFile (log : HostState) (file : List ℕ) : Type 0 where
  pub short : AreShort (contents_of log)
  pub gate : ℕ
  pub rest : List ℕ
  pub is : file ≡ header ++ (records_of log.stored ++ gate ∷ rest)
  pub at_gate : StandsAtGate log.asked log.behind_gate gate rest

-- What a crash leaves of the file: itself; or where the host is writing, the file with any bytes in the range that it writes.
abbrev pub MayLeave : HostState → List ℕ → List ℕ → Type 0
MayLeave log file left = (left ≡ file) ⊎ ((write : HostWrite) × (next_write log ≡ Some write) × Torn write.place (length write.bytes) file left)

-- A journal of what is stored, or of that and all of the group that the host was asked to write.
abbrev pub IsStored : HostState → List ℕ → Type 0
IsStored log file = IsJournal log.stored file ⊎ IsJournal (log.stored ++ log.asked) file

-- The file is a journal of the first of the log's contents, which are all that the host has told to be stored, or more.
pub record HoldsStored (log : HostState) (file : List ℕ) : Type 0 where
  pub contents : Contents
  pub journal : IsJournal contents file
  pub later : Contents
  pub first : contents_of log ≡ contents ++ later
  pub enough : size_of log.stored ≤ size_of contents
