-- What a coordinator knows of its transactions, and what it computes for them once the locks are held.
use Rattle.std.specs.Prelude.{ℕ, ◌+◌, ℤ, Bool, true, false, not, ◌&&◌, ◌==◌, nat_lt, nat_eq, List, [], ◌∷◌, length, map, filter, find, Option, Some, None, if◌then◌else◌}
use Rattle.std.specs.Cmp.Lexicographic.{pointwise}
use Rattle.std.specs.List.{list_all, list_any, flat_map}
use Rattle.std.specs.Ordering.{int_eq}
use Rattle.pv_base.specs.Canonical.{canonical_cases}
use Rattle.pv_base.specs.Catalog.{Item}
use Rattle.pv_base.specs.declared.txn.TxnId.{TxnId}
use Rattle.pv_base.specs.Assignment.{is_same_txn}
use Rattle.pv_base.specs.Named.{names_of}
use Rattle.pv_base.specs.Polyvalue.{Case}
use Rattle.pv_base.specs.Want.{Want}
use Rattle.pv_format.specs.Record.{Record}
use Rattle.pv_model.specs.Alternatives.{Read, all_cases, number_at, rows_at}
use Rattle.pv_model.specs.Check.{requires_certain}
use Rattle.pv_model.specs.PossibleAnswers.{possible}
use Rattle.pv_base.specs.declared.reply.Reply.{Reply}
use Rattle.pv_model.specs.Meaning.{value_in, exec}
use Rattle.pv_model.specs.Replies.{is_same_reply}
use Rattle.pv_protocol.specs.Here.{Here, is_among, participants}
use Rattle.pv_protocol.specs.Records.{undecided, choice}
use Rattle.pv_protocol.specs.State.{Stage, locking, voting, Taken, Entry, Running}

-- The coordinator asks for locks.
abbrev pub is_locking : Stage → Bool
is_locking locking = true
is_locking voting = false

-- the entry of the transaction, if it is one that asks for locks
abbrev pub locking_entry : Running → TxnId → Option Entry
locking_entry running txn = find (λ entry. is_same_txn txn entry.txn && is_locking entry.stage) running.entries

-- the entry of the transaction, if it is one that asks for votes
abbrev pub voting_entry : Running → TxnId → Option Entry
voting_entry running txn = find (λ entry. is_same_txn txn entry.txn && not (is_locking entry.stage)) running.entries

-- A grant of the site was taken.
abbrev pub has_taken : Entry → ℕ → Bool
has_taken entry site = list_any (λ taken. taken.site == site) entry.taken

-- what was taken, in the order of sites, with what this site granted
abbrev pub with_taken : Taken → List Taken → List Taken
with_taken taken [] = taken ∷ []
with_taken taken (first ∷ rest) = if nat_lt taken.site first.site then taken ∷ (first ∷ rest) else first ∷ with_taken taken rest

-- A grant of every participant was taken.
abbrev pub has_all_grants : Here → Entry → Bool
has_all_grants here entry = list_all (has_taken entry) (participants here entry)

-- Every participant has voted.
abbrev pub has_all_votes : Here → Entry → Bool
has_all_votes here entry = list_all (is_among entry.votes) (participants here entry)

-- the values that were taken, in the order of sites
abbrev pub reads_of : Entry → List Read
reads_of entry = flat_map (λ taken. taken.values) entry.taken

-- what the values that were taken name together, as they came
abbrev pub names_taken : Entry → List TxnId
names_taken entry = names_of (all_cases (reads_of entry))

-- what the values that were taken name together, without the transactions whose outcomes the records tell
abbrev pub open_names : List Record → Entry → List TxnId
open_names records entry = undecided records (names_taken entry)

-- a value that was taken, with the outcomes put in that the records tell: the canonical polyvalue
unfoldable pub settled_value : List Record → List (Case ℤ) → List (Case ℤ)
settled_value records cases = canonical_cases int_eq (undecided records (names_of cases)) (λ assignment. number_at cases (choice records assignment))

-- what was taken of the item, if anything was
abbrev pub value_taken : Entry → ℕ → Option Read
value_taken entry item = find (λ read. read.item == item) (reads_of entry)

-- how many outcomes the value names, with those put in that the records tell
abbrev pub count_left : List Record → Option Read → ℕ
count_left records None = 0
count_left records (Some read) = length (names_of (settled_value records read.cases))

-- how many outcomes the item's value depends on yet
abbrev pub doubts : List Record → Entry → ℕ → ℕ
doubts records entry item = count_left records (value_taken entry item)

-- The entry's program requires that the item be certain, and it isn't.
abbrev pub is_uncertain : List Record → Entry → ℕ → Bool
is_uncertain records entry item = requires_certain entry.program item && nat_lt 0 (doubts records entry item)

-- the first such item, among items that are numbered from here on
abbrev pub uncertain_from : List Record → Entry → ℕ → List Item → Option ℕ
uncertain_from records entry item [] = None
uncertain_from records entry item (declared ∷ items) =
    if is_uncertain records entry item then Some item else uncertain_from records entry (item + 1) items

-- what an item is after the program, at an assignment and with what is known by the records
abbrev pub row_after : List Record → Entry → ℕ → List TxnId → ℤ
row_after records entry item assignment = value_in (exec entry.program (rows_at (reads_of entry) (choice records assignment))).rows item

-- what the program replies, at an assignment and with what is known by the records
abbrev pub reply_after : List Record → Entry → List TxnId → Reply
reply_after records entry assignment = (exec entry.program (rows_at (reads_of entry) (choice records assignment))).reply

-- the new value of an item: the canonical polyvalue of what it is after the program
unfoldable pub new_value : List Record → Entry → ℕ → List (Case ℤ)
new_value records entry item = canonical_cases int_eq (open_names records entry) (row_after records entry item)

-- the reply: the canonical polyvalue of what the program replies
unfoldable pub reply_value : List Record → Entry → List (Case Reply)
reply_value records entry = canonical_cases is_same_reply (open_names records entry) (reply_after records entry)

-- the possible replies
abbrev pub replies_of : List Record → Entry → List Reply
replies_of records entry = possible is_same_reply (reply_value records entry)

-- the items that are wanted exclusively
abbrev pub exclusive_items : List Want → List ℕ
exclusive_items wants = map (λ want. want.item) (filter (λ want. want.exclusive) wants)

-- the new values of these items
abbrev pub writes_to : List Record → Entry → List ℕ → List Read
writes_to records entry items = map (λ item. record { item = item; cases = new_value records entry item }) items

-- The values are of the wanted items.
abbrev pub are_values_of : List Want → List Read → Bool
are_values_of wants values = pointwise nat_eq (map (λ value. value.item) values) (map (λ want. want.item) wants)
