-- What C gets where it calls an outbox: the numbers of causes, as embed/polydb.h has them, and what is told beside them.
use Rattle.std.specs.Prelude.{◌≡◌, ℕ, Option, Some, None, Result, Ok, Err, if◌then◌else◌}
use Rattle.pv_embed_outbox.specs.declared.fault.HoldFault.{HoldFault}
use Rattle.pv_embed_outbox.specs.declared.fault.HoldFault.TheVariants as holding
use Rattle.pv_embed_outbox.specs.declared.fault.LearnFault.{LearnFault}
use Rattle.pv_embed_outbox.specs.declared.fault.LearnFault.TheVariants as learning
use Rattle.pv_embed_outbox.specs.declared.fault.OpeningFault.{OpeningFault}
use Rattle.pv_embed_outbox.specs.declared.fault.OpeningFault.TheVariants as opening
use Rattle.pv_embed_outbox.specs.declared.fault.ReleaseFault.{ReleaseFault}
use Rattle.pv_embed_outbox.specs.declared.fault.ReleaseFault.TheVariants as releasing
use Rattle.pv_embed_outbox.specs.declared.fault.TakeFault.{TakeFault}
use Rattle.pv_embed_outbox.specs.declared.fault.TakeFault.TheVariants as taking
use Rattle.pv_handle.specs.declared.journal_info.JournalInfo.{JournalInfo}
use Rattle.pv_handle.specs.declared.refused.Refused.{Refused}
use Rattle.pv_handle.specs.declared.refused.Refused.TheVariants.{Closed, InUse, Engine}
use Rattle.pv_c.specs.Faults.{no_fault, with_number}
use Rattle.pv_c.specs.Status.{status_of, status_of_asked}
use Rattle.pv_c.specs.declared.fault.Fault.{Fault}

-- why an outbox isn't opened
abbrev pub opening_box_number : OpeningFault → ℕ
opening_box_number (opening.NotOurs place) = 22
opening_box_number (opening.BadRecord index) = 23
opening_box_number opening.NoMemory = 7

-- where: where the bytes are no journal, and which content is no record
abbrev pub opening_box_fault : OpeningFault → Fault
opening_box_fault (opening.NotOurs place) = with_number place
opening_box_fault (opening.BadRecord index) = with_number index
opening_box_fault opening.NoMemory = no_fault

-- why an output isn't held
abbrev pub holding_number : HoldFault → ℕ
holding_number holding.BadCases = 41
holding_number holding.Unwritten = 37
holding_number holding.Again = 39
holding_number (holding.Full length) = 26
holding_number holding.NoMemory = 7

-- why an outcome isn't learnt
abbrev pub learning_number : LearnFault → ℕ
learning_number learning.NoSite = 21
learning_number learning.Unwritten = 37
learning_number (learning.Known outcome) = 40
learning_number (learning.Full length) = 26
learning_number learning.NoMemory = 7

-- the number of the outcome that was learnt before, and 0 where none is told
abbrev pub known_outcome : LearnFault → ℕ
known_outcome (learning.Known outcome) = if outcome then 1 else 2
known_outcome other = 0

abbrev pub learnt_outcome : {X : Type 0} → Result X (Refused LearnFault) → ℕ
learnt_outcome (Ok _) = 0
learnt_outcome (Err Closed) = 0
learnt_outcome (Err InUse) = 0
learnt_outcome (Err (Engine fault)) = known_outcome fault

-- The status and the number of the outcome are those of an answer of which this is true.
abbrev pub LearntAs : ℕ → ℕ → (Result (Unit {0}) (Refused LearnFault) → Type 0) → Type 0
LearntAs status outcome IsSo =
    (answer : Result (Unit {0}) (Refused LearnFault)) × (status ≡ status_of learning_number answer) × (outcome ≡ learnt_outcome answer) × IsSo answer

-- why no output is released
abbrev pub releasing_number : ReleaseFault → ℕ
releasing_number releasing.NoneReady = 19
releasing_number (releasing.Full length) = 26
releasing_number releasing.NoMemory = 7

-- why no output is taken
abbrev pub taking_number : TakeFault → ℕ
taking_number taking.Nothing = 19
taking_number taking.Unwritten = 37

-- the output that is taken, and 0 where none is
abbrev pub taken_output : Result ℕ (Refused TakeFault) → ℕ
taken_output (Ok output) = output
taken_output (Err _) = 0

-- The status and the output are those of an answer of which this is true.
abbrev pub TakenAs : ℕ → ℕ → (Result ℕ (Refused TakeFault) → Type 0) → Type 0
TakenAs status output IsSo = (answer : Result ℕ (Refused TakeFault)) × (status ≡ status_of taking_number answer) × (output ≡ taken_output answer) × IsSo answer

-- what is told of a journal, and zeroes of none
abbrev pub journal_of : Option JournalInfo → JournalInfo
journal_of (Some info) = info
journal_of None = record { stored = 0; asked = 0; limit = 0 }

-- The status and what is told are those of an answer of which this is true.
abbrev pub JournalAs : ℕ → JournalInfo → (Option JournalInfo → Type 0) → Type 0
JournalAs status info IsSo = (answer : Option JournalInfo) × (status ≡ status_of_asked answer) × (info ≡ journal_of answer) × IsSo answer
