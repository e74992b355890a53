-- What is new in a world after an event, each with its cause in the world before.
use Rattle.std.specs.Prelude.{◌≡◌, ◌⊎◌, ℕ, ◌+◌, ◌<◌, Bool, true, false, Option, Some, None, List, [], ◌∷◌, ◌++◌, length}
use Rattle.std.specs.List.{Contains}
use Rattle.pv_base.specs.declared.txn.TxnId.{TxnId}
use Rattle.pv_law_quorum.specs.Ballot.{Ballot, is_passed, is_above, greater, is_majority}
use Rattle.pv_law_quorum.specs.Record.{Record, ballot_promised, value_accepted, Vote, promised, last_vote}
use Rattle.pv_law_quorum.specs.Decider.{Setup, Message, prepare, promise, accept, accepted, asking, accepting, Entry, Line, decided, spent, full, is_among, number_in, value_told}
use Rattle.pv_law_quorum.specs.World.{World, Envelope, decider_at, records_at}

-- The message was sent.
abbrev pub Sent : World → (from to : ℕ) → Message → Type 0
Sent world from to message = Contains world.sent (record { from = from; to = to; message = message })

-- The decider has the record.
abbrev pub Has : World → ℕ → Record → Type 0
Has world n kept = Contains (records_at world n) kept

abbrev pub entries_in : Option (List Entry) → List Entry
entries_in None = []
entries_in (Some entries) = entries

-- The decider has the entry in memory.
abbrev pub Holds : World → ℕ → Entry → Type 0
Holds world n entry = Contains (entries_in (decider_at world n).memory) entry

-- the entry with one more promise counted
abbrev pub promising : Entry → (from : ℕ) → Option Vote → Entry
promising entry from last = record entry { counted = from ∷ entry.counted; last = greater (λ (vote : Vote). vote.ballot) entry.last last }

-- the entry with one more decider counted
abbrev pub counting : Entry → (from : ℕ) → Entry
counting entry from = record entry { counted = from ∷ entry.counted }

-- the value that an entry with these promises asks to accept
abbrev pub value_of : Entry → Bool
value_of entry = value_told entry.last entry.commits

-- the entry in its second phase
abbrev pub accepting_of : ℕ → Entry → Entry
accepting_of n entry = record entry { commits = value_of entry; phase = accepting; counted = n ∷ [] }

-- A proposer is told a promise for the first phase of an entry.
pub record IsPromised (w : World) (n : ℕ) (entry : Entry) (from : ℕ) (last : Option Vote) : Type 0 where
  pub holds : Holds w n entry
  pub phase : entry.phase ≡ asking
  pub told : Sent w from n (promise entry.txn entry.ballot last)

-- A proposer is told that its value is accepted, in the second phase of an entry.
pub record IsAccepted (w : World) (n : ℕ) (entry : Entry) (from : ℕ) : Type 0 where
  pub holds : Holds w n entry
  pub phase : entry.phase ≡ accepting
  pub told : Sent w from n (accepted entry.txn entry.ballot)

-- A proposer may accept its value: with this promise it has a majority, and its ballot isn't passed.
pub record MayAsk (setup : Setup) (w : World) (n : ℕ) (entry : Entry) (from : ℕ) (last : Option Vote) : Type 0 where
  pub promised_by : IsPromised w n entry from last
  pub most : is_majority setup.deciders (is_among (from ∷ entry.counted)) ≡ true
  pub unpassed : is_passed entry.ballot (promised entry.txn (records_at w n)) ≡ false

module _ (setup : Setup) (w : World) where
  -- A record is new: a promise of an own ballot, or for one that is asked for; or a value, by a majority of promises or because it is
  -- asked for.
  pub data NewRecord (n : ℕ) (kept : Record) : Type 0 where
    own_promise : (txn : TxnId) (ballot : Ballot) → ballot.decider ≡ n → n < length w.deciders → kept ≡ ballot_promised txn ballot → NewRecord n kept
    asked_promise : (txn : TxnId) (ballot : Ballot) (from : ℕ) → Sent w from n (prepare txn ballot) → kept ≡ ballot_promised txn ballot → NewRecord n kept
    own_value : (entry : Entry) (from : ℕ) (last : Option Vote) → MayAsk setup w n entry from last
        → kept ≡ value_accepted entry.txn entry.ballot (value_of (promising entry from last)) → NewRecord n kept
    asked_value : (txn : TxnId) (ballot : Ballot) (commits : Bool) (from : ℕ) → Sent w from n (accept txn ballot commits)
        → is_passed ballot (promised txn (records_at w n)) ≡ false → kept ≡ value_accepted txn ballot commits → NewRecord n kept

module _ (setup : Setup) (Proposed : TxnId → Bool → Type 0) (w v : World) where
  -- A decider's records are as they were, or have one more.
  pub data MayGrow (n : ℕ) : Type 0 where
    as_was : records_at v n ≡ records_at w n → MayGrow n
    one_more : (kept : Record) → NewRecord setup w n kept → records_at v n ≡ records_at w n ++ kept ∷ [] → MayGrow n

  -- No value is new in this ballot here, unless another decider asks for it.
  abbrev pub Spares : ℕ → TxnId → Ballot → Type 0
  Spares n txn ballot = (commits : Bool) → Has v n (value_accepted txn ballot commits)
      → Has w n (value_accepted txn ballot commits) ⊎ ((from : ℕ) × Sent w from n (accept txn ballot commits))

  -- the entry of a ballot that begins
  abbrev pub first_entry : ℕ → TxnId → Bool → Entry
  first_entry n txn commits = record {
    txn = txn;
    ballot = record { number = number_in (promised txn (records_at w n)) + 1; decider = n };
    commits = commits;
    phase = asking;
    counted = n ∷ [];
    last = last_vote txn (records_at w n);
  }

  -- An entry is new.
  pub data NewEntry (n : ℕ) (entry : Entry) : Type 0 where
    begins : (txn : TxnId) (commits : Bool) → Proposed txn commits → n < length w.deciders
        → Has v n (ballot_promised txn (first_entry n txn commits).ballot) → ((kept : Record) → Has v n kept → Has w n kept ⊎ (ballot_promised txn (first_entry n txn commits).ballot ≡ kept))
        → entry ≡ first_entry n txn commits → NewEntry n entry
    counts : (old : Entry) (from : ℕ) (last : Option Vote) → IsPromised w n old from last → Spares n old.txn old.ballot
        → entry ≡ promising old from last → NewEntry n entry
    asks : (old : Entry) (from : ℕ) (last : Option Vote) → MayAsk setup w n old from last
        → Has v n (value_accepted old.txn old.ballot (value_of (promising old from last)))
        → entry ≡ accepting_of n (promising old from last) → NewEntry n entry
    hears : (old : Entry) (from : ℕ) → IsAccepted w n old from → entry ≡ counting old from → NewEntry n entry

  -- A message is new.
  pub data NewMessage (n : ℕ) (message : Message) : Type 0 where
    prepares : (txn : TxnId) (ballot : Ballot) → ballot.decider ≡ n → Has v n (ballot_promised txn ballot) → message ≡ prepare txn ballot → NewMessage n message
    promises : (txn : TxnId) (ballot : Ballot) → is_above ballot (promised txn (records_at w n)) ≡ true → Has v n (ballot_promised txn ballot)
        → ((kept : Record) → Has v n kept → Has w n kept ⊎ (ballot_promised txn ballot ≡ kept))
        → message ≡ promise txn ballot (last_vote txn (records_at w n)) → NewMessage n message
    asks_for : (entry : Entry) (commits : Bool) → Holds w n entry → entry.phase ≡ asking → Has v n (value_accepted entry.txn entry.ballot commits)
        → message ≡ accept entry.txn entry.ballot commits → NewMessage n message
    answers : (txn : TxnId) (ballot : Ballot) (commits : Bool) → Has v n (value_accepted txn ballot commits) → message ≡ accepted txn ballot → NewMessage n message

  -- A line is new.
  pub data NewLine (line : Line) : Type 0 where
    decides : (n : ℕ) (entry : Entry) (from : ℕ) → IsAccepted w n entry from → is_majority setup.deciders (is_among (from ∷ entry.counted)) ≡ true
        → line ≡ decided n entry.txn entry.commits → NewLine line
    is_spent : (n : ℕ) → line ≡ spent n → NewLine line
    is_full : (n length : ℕ) → line ≡ full n length → NewLine line

  -- All that is in the world after is old, or new with its cause.
  pub record IsStep : Type 0 where
    pub count : length v.deciders ≡ length w.deciders
    pub records : (n : ℕ) → MayGrow n
    pub entries : (n : ℕ) (entry : Entry) → Holds v n entry → (Holds w n entry × Spares n entry.txn entry.ballot) ⊎ NewEntry n entry
    pub sent : (envelope : Envelope) → Contains v.sent envelope → Contains w.sent envelope ⊎ NewMessage envelope.from envelope.message
    pub lines : (line : Line) → Contains v.lines line → Contains w.lines line ⊎ NewLine line
