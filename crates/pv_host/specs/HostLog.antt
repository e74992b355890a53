-- What a log is whose journal a host writes, what the host is to write next, and what the calls make of the log.
use Rattle.std.specs.Prelude.{◌≡◌, ℕ, ◌+◌, ◌-◌, ◌^◌, ◌<◌, ◌≤◌, nat_le, Bool, true, false, not, if◌then◌else◌, MatchBool, List, [], ◌∷◌, ◌++◌, Option, Some, None, length, take}
use Rattle.std.specs.Option.{option_map}
use Rattle.pv_disk_model.specs.Calls.{LogCall, read_all, reserve, append}
use Rattle.pv_disk_model.specs.Size.{Contents, size_of}
use Rattle.pv_format.specs.Journal.{framed, records_of, end_of}

-- A log whose journal a host writes: the contents that the host has told to stand in its file; the group of those after them that it was asked to write together, none
-- where it wasn't asked; and those after these; whether the records of the group stand in the file already, behind a closed gate; how long the log may be; whether it is
-- down, and whether it was read or added to; and for how many bytes of the next content's record there is memory.
pub record HostState : Type 0 where
  pub stored : Contents
  pub asked : Contents
  pub pending : Contents
  pub behind_gate : Bool
  pub limit : ℕ
  pub is_down : Bool
  pub is_read : Bool
  pub bytes : ℕ

-- All that the log holds, the oldest first.
abbrev pub contents_of : HostState → Contents
contents_of log = log.stored ++ (log.asked ++ log.pending)

-- ## What the host is to write
-- Bytes that the host is to write, and where.
pub record HostWrite : Type 0 where
  pub place : ℕ
  pub bytes : List ℕ

-- Records as they come behind a gate: with open gates between them, and a closed one after the last.
abbrev pub behind_gate_of : Contents → List ℕ
behind_gate_of [] = []
behind_gate_of (first ∷ later) = framed first ++ (records_of later ++ 0 ∷ [])

-- What the host is to write after what is stored, where it was asked to write a group: its records behind the closed gate; and once they stand there, the gate, open.
abbrev pub write_after : Contents → Contents → Bool → Option HostWrite
write_after stored [] behind_gate = None
write_after stored (first ∷ later) false = Some (record { place = end_of stored + 1; bytes = behind_gate_of (first ∷ later) })
write_after stored (first ∷ later) true = Some (record { place = end_of stored; bytes = 1 ∷ [] })

abbrev pub next_write : HostState → Option HostWrite
next_write log = write_after log.stored log.asked log.behind_gate

-- The log once the host has written that.
abbrev pub written_to : HostState → Contents → Bool → HostState
written_to log [] behind_gate = log
written_to log (first ∷ later) false = record log { behind_gate = true }
written_to log (first ∷ later) true = record log { stored = log.stored ++ first ∷ later; asked = []; behind_gate = false }

abbrev pub with_written : HostState → HostState
with_written log = written_to log log.asked log.behind_gate

-- ## Which records are one group
-- The first contents whose records have room, one after another, and the contents after them.
abbrev pub fitting : ℕ → Contents → Contents
fitting room [] = []
fitting room (first ∷ later) = if nat_le (5 + length first) room then first ∷ fitting (room - (5 + length first)) later else []

abbrev pub beyond : ℕ → Contents → Contents
beyond room [] = []
beyond room (first ∷ later) = if nat_le (5 + length first) room then beyond (room - (5 + length first)) later else first ∷ later

-- The same, but that the first content is there whatever the room.
abbrev pub group_of : ℕ → Contents → Contents
group_of room [] = []
group_of room (first ∷ later) = first ∷ fitting (room - (5 + length first)) later

abbrev pub left_of : ℕ → Contents → Contents
left_of room [] = []
left_of room (first ∷ later) = beyond (room - (5 + length first)) later

-- The log once the host was asked to write what waits, as far as its records fit into so much room: one at least. What it was asked for before stays the group
-- until it has told that it is written.
abbrev pub asked_after : ℕ → HostState → Contents → HostState
asked_after room log [] = record log { asked = group_of room log.pending; pending = left_of room log.pending }
asked_after room log (first ∷ later) = log

abbrev pub with_asked : ℕ → HostState → HostState
with_asked room log = asked_after room log log.asked

-- How many bytes there are at least to write next: where the host wasn't asked, the first record that waits.
abbrev pub least_write : HostState → Option ℕ
least_write log = option_map (λ (write : HostWrite). length write.bytes) (next_write (with_asked 0 log))

-- There is something to write, for which there is so much room.
abbrev pub Fits : ℕ → Option HostWrite → Type 0
Fits room given = (write : HostWrite) × (given ≡ Some write) × (length write.bytes ≤ room)

-- ## What the calls make of it
-- The log with one content more.
abbrev pub with_content : HostState → List ℕ → HostState
with_content log content = record log { pending = log.pending ++ content ∷ []; is_read = true }

-- The same log but for its room.
abbrev pub IsSameBesideRoom : HostState → HostState → Type 0
IsSameBesideRoom old new = new ≡ record old { bytes = new.bytes }

-- There is memory for the record of a content of so many bytes, within the limit.
abbrev pub HasPlace : HostState → ℕ → Type 0
HasPlace log content = (5 + content ≤ log.bytes) × (size_of (contents_of log) + (5 + content) ≤ log.limit)

-- What a call makes of the log. One that is down refuses each and stays. No append fails, and a length of four bytes has room for what is appended. What was read or
-- added to can't be read again.
abbrev pub HostGoes : HostState → LogCall → Bool → HostState → Type 0
HostGoes old read_all ok new =
    MatchBool old.is_down ((ok ≡ false) × (new ≡ old)) ((ok ≡ not old.is_read) × (new ≡ record old { is_read = true; is_down = old.is_read }))
HostGoes old (reserve content) ok new = IsSameBesideRoom old new
HostGoes old (append content) ok new = MatchBool old.is_down ((ok ≡ false) × (new ≡ old)) ((length content < 2 ^ 32) × (ok ≡ true) × IsSameBesideRoom (with_content old content) new)

-- What the log held then, and what it has held since.
abbrev pub WasHeld : HostState → ℕ → Option Contents → Type 0
WasHeld log since left = (k : ℕ) × (since ≤ k) × (k ≤ length (contents_of log)) × (left ≡ Some (take k (contents_of log)))
