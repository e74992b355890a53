-- A site's steps on outcomes that are reported to it, and on questions for them.
use Rattle.std.specs.Prelude.{ℕ, ◌+◌, Bool, true, false, not, ◌&&◌, ◌||◌, ◌==◌, nat_lt, List, [], ◌∷◌, Option, Some, None, is_some, if◌then◌else◌}
use Rattle.std.specs.List.{list_any}
use Rattle.pv_base.specs.Catalog.{Item, Declared}
use Rattle.pv_base.specs.declared.txn.TxnId.{TxnId}
use Rattle.pv_base.specs.Named.{with_txns, names_of}
use Rattle.pv_base.specs.Polyvalue.{names}
use Rattle.pv_format.specs.Message.{outcome_reported}
use Rattle.pv_format.specs.Record.{Record, outcome_known}
use Rattle.pv_protocol.specs.Here.{Here, remembering, nothing, sending, noting, only_to, without_grant, length_with, is_full}
use Rattle.pv_protocol.specs.Keyed.{of_txn}
use Rattle.pv_protocol.specs.Records.{known, is_undecided, is_prepared}
use Rattle.pv_protocol.specs.Shown.{shown}
use Rattle.pv_protocol.specs.State.{Entry, Running, full, Step}

-- the site's items, among items that are numbered from here on
abbrev pub items_from : ℕ → ℕ → List Item → List ℕ
items_from site item [] = []
items_from site item (declared ∷ items) =
    if declared.site == site then item ∷ items_from site (item + 1) items else items_from site (item + 1) items

-- the site's items, ascending
abbrev pub items_here : Here → List ℕ
items_here here = items_from here.me 0 here.setup.catalog.items

-- what the shown values of these items name, ascending, each once
abbrev pub names_shown : Declared → List Record → List ℕ → List TxnId
names_shown catalog records [] = []
names_shown catalog records (item ∷ items) = with_txns (names_of (shown catalog records item)) (names_shown catalog records items)

-- the transactions that shown values of the site name
unfoldable pub named_here : Here → List TxnId
named_here here = names_shown here.setup.catalog here.records (items_here here)

-- A shown value of the site names the transaction.
unfoldable pub is_named_here : Here → TxnId → Bool
is_named_here here txn = list_any (λ item. names (shown here.setup.catalog here.records item) txn) (items_here here)

-- The outcome is recorded, and a grant of the transaction ends.
abbrev pub learning : Here → TxnId → Bool → Step
learning here txn commits = record {
  running = without_grant here.running txn;
  appended = Some (outcome_known txn commits);
  sends = [];
  notes = [];
  placed = None;
}

-- The site needs the outcome: the transaction is prepared here, or a shown value names it.
abbrev pub is_needed : Here → TxnId → Bool
is_needed here txn = is_prepared here.records txn || is_named_here here txn

-- An outcome is reported to a site. What it doesn't need it doesn't record.
unfoldable pub on_outcome : Here → ℕ → TxnId → Bool → Step
on_outcome here from txn commits =
    if not (from == txn.site.0) || not (is_undecided here.records txn) then nothing here else
    (if is_needed here txn
    then (if is_full here (outcome_known txn commits) then noting here (full (length_with here (outcome_known txn commits))) else learning here txn commits)
    else (if commits then nothing here else remembering (without_grant here.running txn)))

-- The site may have numbered the transaction: its epoch has passed, whatever its number, or it is of now and its number was given.
abbrev pub is_issued : Here → TxnId → Bool
is_issued here txn =
    here.me == txn.site.0
    && (nat_lt txn.epoch here.running.epoch || (txn.epoch == here.running.epoch && nat_lt txn.number here.running.next_txn))

-- The site works on the transaction: it has an entry of it.
abbrev pub works_on : Running → TxnId → Bool
works_on running txn = is_some (of_txn (λ (entry : Entry). entry.txn) txn running.entries)

-- what is answered by what is known: of a transaction that neither committed nor is worked on, that it doesn't commit
abbrev pub at_known : Here → ℕ → TxnId → Option Bool → Step
at_known here from txn (Some true) = sending here.running (only_to from (outcome_reported txn true))
at_known here from txn other = if works_on here.running txn then nothing here else sending here.running (only_to from (outcome_reported txn false))

-- A site asks for an outcome.
unfoldable pub on_ask : Here → ℕ → TxnId → Step
on_ask here from txn = if is_issued here txn then at_known here from txn (known here.records txn) else nothing here
