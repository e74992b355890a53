-- How many bytes a spelling has.
use Rattle.std.specs.Prelude.{ℕ, ℤ, ◌+◌, ◌-◌, ◌*◌, List, length}
use Rattle.std.specs.List.{sum_by}
use Rattle.pv_base.specs.Polyvalue.{Case}
use Rattle.pv_model.specs.Alternatives.{Read}
use Rattle.pv_format.specs.Message.{Envelope, Message, lock, granted, denied, prepare, vote_yes, vote_no, outcome_reported, ask, NoCause, grant_lost, journal_full}
use Rattle.pv_format.specs.Record.{Record, epoch_begun, prepared, outcome_known}

-- how many bytes a polyvalue has: the count of its cases, 9 for each of them, which is a leaf, and 10 for each test, of which there is one less
abbrev pub polyvalue_length : List (Case ℤ) → ℕ
polyvalue_length cases = 2 + (9 * length cases + 10 * (length cases - 1))

-- how many bytes a case had in an old spelling: the count of its literals, 10 bytes for each of them, and the value
abbrev pub old_case_length : Case ℤ → ℕ
old_case_length case = 9 + 10 * length case.when

-- how many bytes a polyvalue had in an old spelling: the count of its cases, and the cases
abbrev pub old_polyvalue_length : List (Case ℤ) → ℕ
old_polyvalue_length cases = 2 + sum_by old_case_length cases

-- how many bytes items with their polyvalues have: their count, and for each the item and the polyvalue
abbrev pub reads_length : List Read → ℕ
reads_length reads = 1 + sum_by (λ read. 4 + polyvalue_length read.cases) reads

-- how many bytes a record has
abbrev pub record_length : Record → ℕ
record_length (epoch_begun epoch) = 5
record_length (prepared txn writes) = 10 + reads_length writes
record_length (outcome_known txn commits) = 11

-- how many bytes the cause of a no has
abbrev pub cause_length : NoCause → ℕ
cause_length grant_lost = 1
cause_length (journal_full length) = 9

-- how many bytes a message has after its transaction
abbrev pub body_length : Message → ℕ
body_length (lock txn wants) = 1 + 5 * length wants
body_length (granted txn grant values) = 8 + reads_length values
body_length (denied txn item holder) = 13
body_length (prepare txn grant writes) = 8 + reads_length writes
body_length (vote_yes txn) = 0
body_length (vote_no txn cause) = cause_length cause
body_length (outcome_reported txn commits) = 1
body_length (ask txn) = 0

-- how many bytes a message has, with its addresses
abbrev pub envelope_length : Envelope → ℕ
envelope_length envelope = 12 + body_length envelope.message
