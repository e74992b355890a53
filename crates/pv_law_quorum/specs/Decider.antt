-- What a decider holds, and what it makes of an input.
use Rattle.std.specs.Prelude.{ℕ, zero, suc, ◌+◌, Bool, true, false, not, ◌&&◌, ◌==◌, nat_lt, nat_le, Option, Some, None, List, [], ◌∷◌, ◌++◌, if◌then◌else◌}
use Rattle.std.specs.List.{filter, find, list_any}
use Rattle.pv_base.specs.Assignment.{is_same_txn}
use Rattle.pv_base.specs.declared.txn.TxnId.{TxnId}
use Rattle.pv_law_quorum.specs.Ballot.{Ballot, is_same_ballot, is_passed, is_above, greater, is_majority}
use Rattle.pv_law_quorum.specs.Record.{Record, ballot_promised, value_accepted, Vote, promised, last_vote, has_accepted}

-- What is fixed for a whole run: how many deciders there are, how long a log of these records is, and how long it may be.
pub record Setup : Type 0 where
  pub deciders : ℕ
  pub length : List Record → ℕ
  pub limit : ℕ

pub data Message : Type 0 where
  -- asks for the promise to take no part in a lower ballot
  prepare : TxnId → Ballot → Message
  -- promises, and tells the last vote
  promise : TxnId → Ballot → (last : Option Vote) → Message
  -- asks to accept a value
  accept : TxnId → Ballot → (commits : Bool) → Message
  -- has accepted the value of this ballot
  accepted : TxnId → Ballot → Message

-- A proposer first asks for promises, and then to accept its value.
pub data Phase : Type 0 where
  asking : Phase
  accepting : Phase

-- What a proposer has in memory of a transaction: its ballot, the value, the phase, which deciders were counted in it, and the greatest
-- of the votes that they told.
pub record Entry : Type 0 where
  pub txn : TxnId
  pub ballot : Ballot
  pub commits : Bool
  pub phase : Phase
  pub counted : List ℕ
  pub last : Option Vote

-- a decider that is up: its number, its records, oldest first, and what it has in memory
pub record Here : Type 0 where
  pub me : ℕ
  pub records : List Record
  pub entries : List Entry

-- what a decider is given to do
pub data Input : Type 0 where
  propose : TxnId → (commits : Bool) → Input
  receive : (from : ℕ) → Message → Input

-- what a decider has to report
pub data Line : Type 0 where
  -- this value is decided
  decided : (me : ℕ) → TxnId → (commits : Bool) → Line
  -- no ballot number is left
  spent : (me : ℕ) → Line
  -- the log would have this length, above its limit
  full : (me : ℕ) → (length : ℕ) → Line

-- a message and where it goes
pub record Outgoing : Type 0 where
  pub to : ℕ
  pub message : Message

-- What a decider makes of an input: what it has in memory then, the record that it appends if it appends one, and what it sends and
-- reports after that.
pub record Answer : Type 0 where
  pub entries : List Entry
  pub appended : Option Record
  pub sends : List Outgoing
  pub lines : List Line

-- a memory in which the transaction has no entry
abbrev pub without : TxnId → List Entry → List Entry
without txn entries = filter (λ entry. not (is_same_txn txn entry.txn)) entries

-- a memory with this entry, in the place of an older one of its transaction
abbrev pub with_entry : Entry → List Entry → List Entry
with_entry entry entries = entry ∷ without entry.txn entries

-- the entry of the transaction
abbrev pub entry_of : TxnId → List Entry → Option Entry
entry_of txn entries = find (λ entry. is_same_txn txn entry.txn) entries

-- The decider is among these.
abbrev pub is_among : List ℕ → ℕ → Bool
is_among deciders n = list_any (λ other. n == other) deciders

-- the others below this number, in ascending order, each with the message
abbrev pub to_others : ℕ → ℕ → Message → List Outgoing
to_others zero me message = []
to_others (suc n) me message = to_others n me message ++ (if n == me then [] else record { to = n; message = message } ∷ [])

abbrev pub is_same_phase : Phase → Phase → Bool
is_same_phase asking asking = true
is_same_phase accepting accepting = true
is_same_phase phase other = false

-- The entry is in this phase of this ballot, and the decider isn't counted in it.
abbrev pub awaits : Entry → Phase → Ballot → ℕ → Bool
awaits entry phase ballot from = is_same_phase entry.phase phase && (is_same_ballot ballot entry.ballot && not (is_among entry.counted from))

-- the number of the promised ballot, and 0 where there is none
abbrev pub number_in : Option Ballot → ℕ
number_in None = 0
number_in (Some ballot) = ballot.number

-- the value of the greatest vote that was told, and the proposed one where there is none
abbrev pub value_told : Option Vote → Bool → Bool
value_told None commits = commits
value_told (Some vote) commits = vote.commits

-- Nothing happens, but that this is in memory then.
abbrev pub holding : List Entry → Answer
holding entries = record { entries = entries; appended = None; sends = []; lines = [] }

-- A proposer begins a ballot: it promises it itself, and asks the others to.
abbrev pub begin_ballot : Setup → Here → TxnId → Bool → Ballot → Answer
begin_ballot setup here txn commits ballot = record {
  entries = with_entry (record {
    txn = txn;
    ballot = ballot;
    commits = commits;
    phase = asking;
    counted = here.me ∷ [];
    last = last_vote txn here.records;
  }) here.entries;
  appended = Some (ballot_promised txn ballot);
  sends = to_others setup.deciders here.me (prepare txn ballot);
  lines = [];
}

-- A value is proposed: a ballot with the next number begins.
abbrev pub on_propose : Setup → Here → TxnId → Bool → Answer
on_propose setup here txn commits =
    let number = number_in (promised txn here.records) in
    if nat_le 4294967294 number then record { entries = here.entries; appended = None; sends = []; lines = spent here.me ∷ [] }
    else begin_ballot setup here txn commits (record { number = number + 1; decider = here.me })

-- A decider promises a ballot that is above each that it promised or accepted before, and tells its last vote.
abbrev pub on_prepare : Here → (from : ℕ) → TxnId → Ballot → Answer
on_prepare here from txn ballot =
    if is_above ballot (promised txn here.records) then record {
      entries = here.entries;
      appended = Some (ballot_promised txn ballot);
      sends = record { to = from; message = promise txn ballot (last_vote txn here.records) } ∷ [];
      lines = [];
    } else holding here.entries

-- A proposer with a majority of promises accepts the value itself, and asks the others to.
abbrev pub ask_to_accept : Setup → Here → Entry → Bool → Answer
ask_to_accept setup here entry commits = record {
  entries = with_entry (record entry { commits = commits; phase = accepting; counted = here.me ∷ [] }) here.entries;
  appended = Some (value_accepted entry.txn entry.ballot commits);
  sends = to_others setup.deciders here.me (accept entry.txn entry.ballot commits);
  lines = [];
}

-- A proposer has counted a promise.
abbrev pub with_promise : Setup → Here → Entry → Answer
with_promise setup here entry =
    if is_majority setup.deciders (is_among entry.counted) then
    (if is_passed entry.ballot (promised entry.txn here.records) then holding (without entry.txn here.entries)
    else ask_to_accept setup here entry (value_told entry.last entry.commits))
    else holding (with_entry entry here.entries)

-- A promise comes: it is counted in the first phase of its ballot, with the vote that it tells.
abbrev pub on_promise : Setup → Here → (from : ℕ) → Ballot → Option Vote → Option Entry → Answer
on_promise setup here from ballot last None = holding here.entries
on_promise setup here from ballot last (Some entry) =
    if awaits entry asking ballot from then
    with_promise setup here (record entry { counted = from ∷ entry.counted; last = greater (λ (vote : Vote). vote.ballot) entry.last last })
    else holding here.entries

-- A decider accepts a value in a ballot that isn't below what it promised, and says so, also when it is asked again.
abbrev pub on_accept : Here → (from : ℕ) → TxnId → Ballot → Bool → Answer
on_accept here from txn ballot commits =
    if is_passed ballot (promised txn here.records) then holding here.entries
    else record {
      entries = here.entries;
      appended = if has_accepted here.records txn ballot commits then None else Some (value_accepted txn ballot commits);
      sends = record { to = from; message = accepted txn ballot } ∷ [];
      lines = [];
    }

-- A proposer has counted a decider that accepted: at a majority the value is decided.
abbrev pub with_accepted : Setup → Here → Entry → Answer
with_accepted setup here entry =
    if is_majority setup.deciders (is_among entry.counted) then
    record { entries = without entry.txn here.entries; appended = None; sends = []; lines = decided here.me entry.txn entry.commits ∷ [] }
    else holding (with_entry entry here.entries)

-- A decider has accepted: it is counted in the second phase of its ballot.
abbrev pub on_accepted : Setup → Here → (from : ℕ) → Ballot → Option Entry → Answer
on_accepted setup here from ballot None = holding here.entries
on_accepted setup here from ballot (Some entry) =
    if awaits entry accepting ballot from then with_accepted setup here (record entry { counted = from ∷ entry.counted })
    else holding here.entries

-- what a decider makes of an input where its log has room
abbrev pub answer_to : Setup → Here → Input → Answer
answer_to setup here (propose txn commits) = on_propose setup here txn commits
answer_to setup here (receive from (prepare txn ballot)) = on_prepare here from txn ballot
answer_to setup here (receive from (promise txn ballot last)) = on_promise setup here from ballot last (entry_of txn here.entries)
answer_to setup here (receive from (accept txn ballot commits)) = on_accept here from txn ballot commits
answer_to setup here (receive from (accepted txn ballot)) = on_accepted setup here from ballot (entry_of txn here.entries)

-- An append after which the log would be too long gives a line, and nothing else happens.
abbrev pub within_limit : Setup → Here → Answer → Option Record → Answer
within_limit setup here answer None = answer
within_limit setup here answer (Some kept) =
    let length = setup.length (here.records ++ kept ∷ []) in
    if nat_lt setup.limit length then record { entries = here.entries; appended = None; sends = []; lines = full here.me length ∷ [] } else answer

-- what a decider makes of an input
abbrev pub step : Setup → Here → Input → Answer
step setup here input = let answer = answer_to setup here input in within_limit setup here answer answer.appended
