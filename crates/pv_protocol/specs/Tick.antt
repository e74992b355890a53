-- A site's step on a tick, with which grants and entries age and end.
use Rattle.std.specs.Prelude.{ℕ, ◌+◌, Bool, false, not, nat_lt, List, ◌++◌, map, filter, find, is_none, None}
use Rattle.std.specs.List.{flat_map}
use Rattle.std.specs.Option.{unwrap_or}
use Rattle.pv_base.specs.declared.limits.TheConstants.{TICKS}
use Rattle.pv_base.specs.declared.txn.TxnId.{TxnId}
use Rattle.pv_format.specs.Message.{ask}
use Rattle.pv_protocol.specs.Coordinate.{has_taken}
use Rattle.pv_protocol.specs.Here.{Here, is_among, outcome_sends, grant_of, participants}
use Rattle.pv_protocol.specs.Outcome.{named_here}
use Rattle.pv_protocol.specs.State.{Grant, Entry, Stage, locking, voting, Running, Note, refused, expired, Outgoing, Step}

-- the grants, a tick older
abbrev pub older_grants : List Grant → List Grant
older_grants grants = map (λ (grant : Grant). record grant { age = grant.age + 1 }) grants

-- the entries, a tick older
abbrev pub older_entries : List Entry → List Entry
older_entries entries = map (λ (entry : Entry). record entry { age = entry.age + 1 }) entries

-- the grants that haven't come to their last tick
abbrev pub lasting_grants : List Grant → List Grant
lasting_grants grants = filter (λ grant. nat_lt grant.age TICKS) grants

-- the entries that haven't come to their last tick
abbrev pub lasting_entries : List Entry → List Entry
lasting_entries entries = filter (λ entry. nat_lt entry.age TICKS) entries

-- the entries that have come to their last tick
abbrev pub expired_entries : List Entry → List Entry
expired_entries entries = filter (λ entry. not (nat_lt entry.age TICKS)) entries

-- The site has given what the entry waits for: its grant, or its vote.
abbrev pub has_answered : Stage → Entry → ℕ → Bool
has_answered locking entry site = has_taken entry site
has_answered voting entry site = is_among entry.votes site

-- The least participant that the entry waits for. Every entry waits for some; where one didn't, it would be 0.
abbrev pub awaited : Here → Entry → ℕ
awaited here entry = unwrap_or (find (λ site. not (has_answered entry.stage entry site)) (participants here entry)) 0

-- To every participant of each transaction it is reported that it doesn't commit.
abbrev pub expiry_sends : Here → List Entry → List Outgoing
expiry_sends here entries = flat_map (λ entry. outcome_sends entry.txn false (participants here entry)) entries

-- Each transaction is refused for the site that it waited for.
abbrev pub expiry_notes : Here → List Entry → List Note
expiry_notes here entries = map (λ entry. refused entry.txn (expired (awaited here entry))) entries

-- The transaction's site is asked for the outcome of each.
abbrev pub ask_sends : List TxnId → List Outgoing
ask_sends txns = map (λ txn. record { to = txn.site.0; message = ask txn }) txns

-- the memory after a tick
abbrev pub older : Running → Running
older running = record running { grants = lasting_grants (older_grants running.grants); entries = lasting_entries (older_entries running.entries) }

-- those of the transactions that have no grant here
abbrev pub ungranted : Running → List TxnId → List TxnId
ungranted running txns = filter (λ txn. is_none (grant_of running txn)) txns

-- Grants end and entries are refused at their last tick. Then the outcomes are asked for that shown values name, of
-- transactions that have no grant here.
unfoldable pub on_tick : Here → Step
on_tick here =
    let refusals = expired_entries (older_entries here.running.entries) in
    let running = older here.running in
    record {
      running = running;
      appended = None;
      sends = expiry_sends here refusals ++ ask_sends (ungranted running (named_here here));
      notes = expiry_notes here refusals;
      placed = None;
    }
