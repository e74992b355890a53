-- What a site's step looks at, and the plainest steps.
use Rattle.std.specs.Prelude.{ℕ, ◌+◌, Bool, ◌==◌, false, nat_lt, List, [], ◌∷◌, map, Option, None}
use Rattle.std.specs.List.{list_any}
use Rattle.pv_base.specs.declared.txn.TxnId.{TxnId}
use Rattle.pv_format.specs.Message.{Message, outcome_reported}
use Rattle.pv_format.specs.Record.{Record}
use Rattle.pv_model.specs.Plan.{participants_of}
use Rattle.pv_protocol.specs.Keyed.{of_txn, with_one, without}
use Rattle.pv_protocol.specs.Records.{record_bytes, longer_journal}
use Rattle.pv_protocol.specs.State.{Setup, Grant, Entry, Running, Cause, Note, refused, Outgoing, Step}

-- A running site: its number, what is fixed, its records, by how many bytes its journal is longer than these make it since some stand in old spellings, and what it has
-- in memory.
pub record Here : Type 0 where
  pub me : ℕ
  pub setup : Setup
  pub records : List Record
  pub surplus : ℕ
  pub running : Running

-- The site's memory changes, and nothing else happens.
abbrev pub remembering : Running → Step
remembering running = record { running = running; appended = None; sends = []; notes = []; placed = None }

-- Nothing happens.
abbrev pub nothing : Here → Step
nothing here = remembering here.running

-- The site's memory changes and these messages are sent.
abbrev pub sending : Running → List Outgoing → Step
sending running sends = record { running = running; appended = None; sends = sends; notes = []; placed = None }

-- This is reported, and nothing else happens.
abbrev pub noting : Here → Note → Step
noting here note = record { running = here.running; appended = None; sends = []; notes = note ∷ []; placed = None }

-- one message to one site
abbrev pub only_to : ℕ → Message → List Outgoing
only_to site message = record { to = site; message = message } ∷ []

-- The site is among these.
abbrev pub is_among : List ℕ → ℕ → Bool
is_among sites site = list_any (λ other. site == other) sites

-- the outcome of a transaction, reported to each of these sites
abbrev pub outcome_sends : TxnId → Bool → List ℕ → List Outgoing
outcome_sends txn commits sites = map (λ site. record { to = site; message = outcome_reported txn commits }) sites

-- the grant that the transaction has here, if one stands
abbrev pub grant_of : Running → TxnId → Option Grant
grant_of running txn = of_txn (λ (grant : Grant). grant.txn) txn running.grants

-- the memory with this grant, the only one of its transaction
abbrev pub with_grant : Running → Grant → Running
with_grant running grant = record running { grants = with_one (λ (other : Grant). other.txn) grant running.grants }

-- the memory without a grant of the transaction
abbrev pub without_grant : Running → TxnId → Running
without_grant running txn = record running { grants = without (λ (grant : Grant). grant.txn) txn running.grants }

-- the memory with this entry, the only one of its transaction
abbrev pub with_entry : Running → Entry → Running
with_entry running entry = record running { entries = with_one (λ (other : Entry). other.txn) entry running.entries }

-- the memory without an entry of the transaction
abbrev pub without_entry : Running → TxnId → Running
without_entry running txn = record running { entries = without (λ (entry : Entry). entry.txn) txn running.entries }

-- the participants of the entry's transaction, ascending
abbrev pub participants : Here → Entry → List ℕ
participants here entry = participants_of entry.program here.setup.catalog.items

-- The transaction is refused: its entry is dropped, and it is reported to every participant that it doesn't commit.
abbrev pub refusing : Here → Entry → Cause → Step
refusing here entry cause = record {
  running = without_entry here.running entry.txn;
  appended = None;
  sends = outcome_sends entry.txn false (participants here entry);
  notes = refused entry.txn cause ∷ [];
  placed = None;
}

-- the length of the journal with one more record
abbrev pub length_with : Here → Record → ℕ
length_with here more = longer_journal here.surplus here.records + record_bytes more

-- The journal has no room for the record.
abbrev pub is_full : Here → Record → Bool
is_full here more = nat_lt here.setup.catalog.journal (length_with here more)
