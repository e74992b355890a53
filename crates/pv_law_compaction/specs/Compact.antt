-- Compaction: the records that a site keeps of its records at a checkpoint (on checkpoints and what a log may then drop: Gray and Reuter, 1993; Mohan and others, 1992).
use Rattle.std.specs.Prelude.{ℕ, ℤ, ◌+◌, ◌==◌, ◌&&◌, Bool, true, false, not, filter, map, length, List, [], ◌∷◌, ◌++◌, Option, Some, None, if◌then◌else◌}
use Rattle.std.specs.Ordering.{int_eq}
use Rattle.pv_base.specs.Canonical.{are_same_cases}
use Rattle.pv_base.specs.Catalog.{Declared}
use Rattle.pv_base.specs.Polyvalue.{Case}
use Rattle.pv_base.specs.declared.limits.TheConstants.{MAX_PROGRAM_ITEMS}
use Rattle.pv_base.specs.declared.txn.TxnId.{TxnId}
use Rattle.pv_format.specs.Contents.{greatest_epoch}
use Rattle.pv_format.specs.Record.{Record, epoch_begun, prepared, outcome_known}
use Rattle.pv_law_compaction.specs.Given.{is_given}
use Rattle.pv_model.specs.Alternatives.{Read}
use Rattle.pv_protocol.specs.Committed.{home_of}
use Rattle.pv_protocol.specs.Outcome.{items_from}
use Rattle.pv_protocol.specs.Records.{known, is_undecided}
use Rattle.pv_protocol.specs.Shown.{declared_value, shown}

-- Outcomes. Of a transaction that a site began it tells that it committed where a record says so, and else that it didn't (presumed abort: Mohan, Lindsay and
-- Obermarck, 1986). So these records stay, and every other outcome may go: its own site tells it again.

-- It is known that the transaction commits.
abbrev pub is_yes : Option Bool → Bool
is_yes None = false
is_yes (Some commits) = commits

-- The record says that a transaction commits that the site began, and it is known so.
abbrev pub is_own_commit : ℕ → List Record → Record → Bool
is_own_commit site records (outcome_known txn commits) = commits && (is_given txn && (home_of txn == site && is_yes (known records txn)))
is_own_commit site records other = false

-- the commits of transactions that the site began
abbrev pub own_commits : ℕ → List Record → List Record
own_commits site records = filter (is_own_commit site records) records

-- Values. What the site's items are shown as is written once more, by transactions that commit. Their epoch is 0, which no site ever gives.

-- a value that depends on no outcome
abbrev pub sure : ℤ → List (Case ℤ)
sure value = record { when = []; value = value } ∷ []

-- The item isn't shown as it was declared.
abbrev pub is_changed : Declared → List Record → ℕ → Bool
is_changed catalog records item = not (are_same_cases int_eq (shown catalog records item) (sure (declared_value catalog item)))

-- an item with its shown value
abbrev pub shown_of : Declared → List Record → ℕ → Read
shown_of catalog records item = record { item = item; cases = shown catalog records item }

-- the changed items of the site, ascending, with their shown values
abbrev pub changed_values : Declared → ℕ → List Record → List Read
changed_values catalog site records = map (shown_of catalog records) (filter (is_changed catalog records) (items_from site 0 catalog.items))

-- the rest in groups, behind a group that was begun: a record has room for 16 items
abbrev pub grouped_behind : List Read → List Read → List (List Read)
grouped_behind group [] = group ∷ []
grouped_behind group (read ∷ reads) =
    if length group == MAX_PROGRAM_ITEMS then group ∷ grouped_behind (read ∷ []) reads else grouped_behind (group ++ read ∷ []) reads

-- the values in groups of 16, the last one of what is left
abbrev pub grouped : List Read → List (List Read)
grouped [] = []
grouped (read ∷ reads) = grouped_behind (read ∷ []) reads

-- the site's transaction of this number in epoch 0
abbrev pub saving_txn : ℕ → ℕ → TxnId
saving_txn site number = record { site = record { 0 = site }; epoch = 0; number = number }

-- the groups as writes of such transactions, numbered from here on, each of which commits
abbrev pub saved_from : ℕ → ℕ → List (List Read) → List Record
saved_from site number [] = []
saved_from site number (group ∷ groups) =
    prepared (saving_txn site number) group ∷ outcome_known (saving_txn site number) true ∷ saved_from site (number + 1) groups

-- the records of the values
abbrev pub saved_values : Declared → ℕ → List Record → List Record
saved_values catalog site records = saved_from site 0 (grouped (changed_values catalog site records))

-- Promises. That a transaction is prepared has to stay while its outcome isn't known. What it promised to write is in the values.

-- The record is a promise of a transaction whose outcome isn't known.
abbrev pub is_open_promise : List Record → Record → Bool
is_open_promise records (prepared txn writes) = is_undecided records txn
is_open_promise records other = false

-- a promise without its writes
abbrev pub without_writes : Record → Record
without_writes (prepared txn writes) = prepared txn []
without_writes other = other

-- the promises whose outcomes aren't known, in their order, without their writes
abbrev pub open_promises : List Record → List Record
open_promises records = map without_writes (filter (is_open_promise records) records)

-- What records are compacted to: the greatest epoch, the site's own commits, its values, and the promises whose outcomes aren't known.
abbrev pub compact : Declared → ℕ → List Record → List Record
compact catalog site records =
    epoch_begun (greatest_epoch records) ∷ (own_commits site records ++ (saved_values catalog site records ++ open_promises records))
