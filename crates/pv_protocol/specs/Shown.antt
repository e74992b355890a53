-- The value that a site's records show of an item: a polyvalue over the outcomes that they leave open.
use Rattle.std.specs.Prelude.{ℕ, ℤ, pos, Bool, true, false, ◌==◌, List, [], ◌∷◌, slice_get, Option, Some, None, if◌then◌else◌}
use Rattle.std.specs.Ordering.{int_eq}
use Rattle.pv_base.specs.Assignment.{commits}
use Rattle.pv_base.specs.Canonical.{canonical_cases}
use Rattle.pv_base.specs.Catalog.{Item, Declared}
use Rattle.pv_base.specs.declared.txn.TxnId.{TxnId}
use Rattle.pv_base.specs.Named.{with_txn, with_txns, names_of}
use Rattle.pv_base.specs.Polyvalue.{Case}
use Rattle.pv_format.specs.Record.{Record, prepared}
use Rattle.pv_model.specs.Alternatives.{Read, number_at}
use Rattle.pv_protocol.specs.Records.{known, undecided, choice}

-- what is written for the item, if it is among the writes
abbrev pub written : ℕ → List Read → Option (List (Case ℤ))
written item [] = None
written item (write ∷ writes) = if write.item == item then Some write.cases else written item writes

-- the value that was written, or the old one where none was
abbrev pub written_or : ℤ → Option (List (Case ℤ)) → List TxnId → ℤ
written_or old None assignment = old
written_or old (Some cases) assignment = number_at cases assignment

-- the item's value after a record, where it was this one before: a write counts where its transaction commits
abbrev pub value_after : ℕ → List TxnId → ℤ → Record → ℤ
value_after item assignment old (prepared txn writes) =
    if commits assignment txn then written_or old (written item writes) assignment else old
value_after item assignment old other = old

-- the item's value after the records, oldest first, where it was this one before: that of the newest committing write
abbrev pub newest : ℕ → List TxnId → ℤ → List Record → ℤ
newest item assignment value [] = value
newest item assignment value (first ∷ records) = newest item assignment (value_after item assignment value first) records

-- the value of a declared item. An item that isn't declared has none; 0 stands for it.
abbrev pub declared_or_zero : Option Item → ℤ
declared_or_zero None = pos 0
declared_or_zero (Some declared) = declared.value

-- the declared value of an item
abbrev pub declared_value : Declared → ℕ → ℤ
declared_value catalog item = declared_or_zero (slice_get catalog.items item)

-- An item's value by the writes of a front of the records: transactions commit as all the records say; where no record says, as
-- assigned.
abbrev pub item_within : Declared → List Record → List Record → ℕ → List TxnId → ℤ
item_within catalog records front item assignment = newest item (choice records assignment) (declared_value catalog item) front

-- An item's value by the records.
abbrev pub item_value : Declared → List Record → ℕ → List TxnId → ℤ
item_value catalog records item assignment = item_within catalog records records item assignment

-- what a choice between these may depend on, where the transaction that decides it may be known
abbrev pub names_of_choice : Option Bool → TxnId → List TxnId → List TxnId → List TxnId
names_of_choice (Some true) txn new old = new
names_of_choice (Some false) txn new old = old
names_of_choice None txn new old = with_txn txn (with_txns new old)

-- what a value may depend on after a transaction's write, where it may depend on these before
abbrev pub names_after_write : List Record → TxnId → List TxnId → Option (List (Case ℤ)) → List TxnId
names_after_write records txn old None = old
names_after_write records txn old (Some cases) = names_of_choice (known records txn) txn (undecided records (names_of cases)) old

-- what the item's value may depend on after a record
abbrev pub names_after : List Record → ℕ → List TxnId → Record → List TxnId
names_after records item old (prepared txn writes) = names_after_write records txn old (written item writes)
names_after records item old other = old

-- the undecided transactions on which the item's value may depend after a front of the records, where it may depend on these before
abbrev pub names_within : List Record → ℕ → List TxnId → List Record → List TxnId
names_within records item names [] = names
names_within records item names (first ∷ front) = names_within records item (names_after records item names first) front

-- what the item's value is after the writes of a front of the records, with the outcomes that all records tell
unfoldable pub shown_within : Declared → List Record → List Record → ℕ → List (Case ℤ)
shown_within catalog records front item =
    canonical_cases int_eq (names_within records item [] front) (item_within catalog records front item)

-- The shown value of an item: the canonical polyvalue that has the item's value at every assignment. It names no outcome that is known.
abbrev pub shown : Declared → List Record → ℕ → List (Case ℤ)
shown catalog records item = shown_within catalog records records item
