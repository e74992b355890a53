-- The life of outboxes with hosts, one after another on one file: calls, writes of the host, kills at any moment, and openings on what is left.
use Rattle.std.specs.Prelude.{◌≡◌, ℕ, Bool, List, [], ◌∷◌, ◌++◌, Option, Some, None, Result, Ok, ⊤}
use Rattle.pv_base.specs.declared.txn.TxnId.{TxnId}
use Rattle.pv_disk_model.specs.Disk.{overlaid}
use Rattle.pv_host.specs.HostFile.{MayLeave}
use Rattle.pv_host.specs.HostLog.{HostWrite, next_write}
use Rattle.pv_embed_outbox.specs.Calls.{HoldsBy, LearnsBy, ReleasesBy, TakesBy}
use Rattle.pv_embed_outbox.specs.Hosted.{AsksForGroup, HostedState, Writes}
use Rattle.pv_embed_outbox.specs.Opening.{HasOpenedOn}
use Rattle.pv_embed_outbox.specs.declared.fault.HoldFault.{HoldFault}
use Rattle.pv_embed_outbox.specs.declared.fault.LearnFault.{LearnFault}
use Rattle.pv_embed_outbox.specs.declared.fault.ReleaseFault.{ReleaseFault}
use Rattle.pv_embed_outbox.specs.declared.fault.TakeFault.{TakeFault}

-- What comes to pass with outboxes and the file.
pub data Act : Type 0 where
  -- calls, by their answers
  holds : (output : ℕ) (text : List ℕ) (answer : Result ⊤ HoldFault) → Act
  learns : (txn : TxnId) (commits : Bool) (answer : Result ⊤ LearnFault) → Act
  releases : (answer : Result ⊤ ReleaseFault) → Act
  takes : (answer : Result ℕ TakeFault) → Act
  -- the host is asked to write a group
  asks : (room : ℕ) → Act
  -- the host's write has failed, or is under way: it leaves any bytes where it writes
  tears : Act
  -- the host has written what came next, and has told so
  writes : Act
  -- the process is killed, also within a write, or the outbox is closed
  stops : Act
  -- an outbox is opened on what the file holds
  opens : Act

-- Where a life has come to: an outbox with its file, or a file without one.
pub data Place : Type 0 where
  running : (hosted : HostedState) (file : List ℕ) → Place
  closed : (file : List ℕ) → Place

-- the file once that is written
abbrev pub written_into : List ℕ → Option HostWrite → List ℕ
written_into file None = file
written_into file (Some write) = overlaid file write.place write.bytes

-- An act takes an outbox with its file to a place.
abbrev pub Goes : HostedState → List ℕ → Act → Place → Type 0
Goes old file (holds output text answer) (running new after) = HoldsBy old new output text answer × (after ≡ file)
Goes old file (learns txn commits answer) (running new after) = LearnsBy old new txn commits answer × (after ≡ file)
Goes old file (releases answer) (running new after) = ReleasesBy old new answer × (after ≡ file)
Goes old file (takes answer) (running new after) = TakesBy old new answer × (after ≡ file)
Goes old file (asks room) (running new after) = AsksForGroup room old new × (after ≡ file)
Goes old file tears (running new after) = (new ≡ old) × MayLeave old.outbox.log file after
Goes old file writes (running new after) = Writes old new × (after ≡ written_into file (next_write old.outbox.log))
Goes old file stops (closed after) = MayLeave old.outbox.log file after
Goes old file _ _ = ⊥

-- An act takes a file without an outbox to a place. A refused opening is none.
abbrev pub Returns : List ℕ → Act → Place → Type 0
Returns file opens (running hosted after) = HasOpenedOn file hosted × (after ≡ file)
Returns file _ _ = ⊥

abbrev pub Moves : Place → Act → Place → Type 0
Moves (running hosted file) act next = Goes hosted file act next
Moves (closed file) act next = Returns file act next

-- The acts come to pass, one after another, from the one place to the other.
abbrev pub Life : Place → List Act → Place → Type 0
Life old [] new = new ≡ old
Life old (act ∷ acts) new = (mid : Place) × Moves old act mid × Life mid acts new

-- the outputs that are taken, in their order
abbrev pub taken_by : Act → List ℕ
taken_by (takes (Ok output)) = output ∷ []
taken_by _ = []

abbrev pub taken_in : List Act → List ℕ
taken_in [] = []
taken_in (act ∷ acts) = taken_by act ++ taken_in acts
