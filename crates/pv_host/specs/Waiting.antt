-- Records that wait to be written, as they come behind a gate.
use Rattle.std.specs.Prelude.{◌≡◌, ℕ, ◌+◌, List, [], ◌∷◌, ◌++◌, Option, Some, None, length}
use Rattle.pv_disk_model.specs.Size.{Contents}
use Rattle.pv_format.specs.Journal.{AreShort, header}
use Rattle.pv_format.specs.JournalContents.{contents_of}
use Rattle.pv_host.specs.HostLog.{behind_gate_of}

-- The contents of the group that the host was asked to write, and of the records after it; and for how many bytes more there is memory.
pub record WaitingState : Type 0 where
  pub asked : Contents
  pub pending : Contents
  pub room : ℕ

abbrev pub or_none : Option Contents → Contents
or_none None = []
or_none (Some contents) = contents

-- the contents of the journal that has these bytes behind its first gate, which is open; and none where that is no journal
abbrev pub contents_behind : List ℕ → Contents
contents_behind bytes = or_none (contents_of (header ++ 1 ∷ bytes))

-- The bytes are the records of these contents, as they come behind a gate.
pub record AreRecords (contents : Contents) (bytes : List ℕ) : Type 0 where
  pub are : bytes ≡ behind_gate_of contents
  pub short : AreShort contents

-- how long the first record is, if there is one
abbrev pub first_length : Contents → Option ℕ
first_length [] = None
first_length (first ∷ later) = Some (5 + length first)
