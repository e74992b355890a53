-- What a site's records say: outcomes, promises, and how long the journal is that holds them.
use Rattle.std.specs.Prelude.{ℕ, zero, suc, ◌+◌, Bool, false, ◌||◌, List, [], ◌∷◌, filter, Option, Some, None, is_none, if◌then◌else◌}
use Rattle.std.specs.List.{sum_by}
use Rattle.pv_base.specs.declared.txn.TxnId.{TxnId}
use Rattle.pv_base.specs.Assignment.{is_same_txn, with_outcome}
use Rattle.pv_format.specs.Length.{record_length}
use Rattle.pv_format.specs.Record.{Record, prepared, outcome_known}

-- The known outcome of the transaction: the first record of its outcome counts.
abbrev pub known : List Record → TxnId → Option Bool
known [] txn = None
known (outcome_known decided commits ∷ records) txn = if is_same_txn txn decided then Some commits else known records txn
known (other ∷ records) txn = known records txn

-- The transaction's outcome is not known.
abbrev pub is_undecided : List Record → TxnId → Bool
is_undecided records txn = is_none (known records txn)

-- those of the transactions whose outcomes are not known
abbrev pub undecided : List Record → List TxnId → List TxnId
undecided records txns = filter (is_undecided records) txns

-- The assignment with the outcomes that are known, and else as it was. The first record of an outcome is put in last, so it counts.
abbrev pub choice : List Record → List TxnId → List TxnId
choice [] assignment = assignment
choice (outcome_known txn commits ∷ records) assignment = with_outcome txn commits (choice records assignment)
choice (other ∷ records) assignment = choice records assignment

-- The transaction has a prepared record.
abbrev pub is_prepared : List Record → TxnId → Bool
is_prepared [] txn = false
is_prepared (prepared promised writes ∷ records) txn = is_same_txn txn promised || is_prepared records txn
is_prepared (other ∷ records) txn = is_prepared records txn

-- how many bytes a record takes in the journal: a gate, a length and its content
abbrev pub record_bytes : Record → ℕ
record_bytes kept = 5 + record_length kept

-- how many bytes a journal of these records has: its header, the records, and the gate at its end
unfoldable pub journal_bytes : List Record → ℕ
journal_bytes records = 9 + sum_by record_bytes records

-- The same of a journal that is by so many bytes longer than the records make it as they are written, since some stand in old spellings. It is by cases, so that it computes
-- where all are as they are written.
abbrev pub longer_journal : ℕ → List Record → ℕ
longer_journal zero records = journal_bytes records
longer_journal (suc more) records = suc more + journal_bytes records
