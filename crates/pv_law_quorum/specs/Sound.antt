-- What holds of every world of a run.
use Rattle.std.specs.Prelude.{◌≡◌, ℕ, ◌<◌, ◌≤◌, Bool, true, Option, Some, None, List, length, ⊤}
use Rattle.std.specs.List.{Contains}
use Rattle.pv_base.specs.declared.txn.TxnId.{TxnId}
use Rattle.pv_law_quorum.specs.Ballot.{Ballot, rank, is_majority}
use Rattle.pv_law_quorum.specs.Record.{Record, ballot_promised, value_accepted, Vote}
use Rattle.pv_law_quorum.specs.Decider.{Setup, Message, prepare, promise, accept, accepted, Phase, asking, accepting, Entry, Line, decided, spent, full, is_among}
use Rattle.pv_law_quorum.specs.World.{World, Envelope, IsChosen}
use Rattle.pv_law_quorum.specs.Steps.{Has, Holds}

-- What is there has at least this rank.
abbrev pub Reaches : {X : Type 0} → (X → Ballot) → Option X → ℕ → Type 0
Reaches ballot_of None k = ⊥
Reaches ballot_of (Some x) k = k ≤ rank (ballot_of x)

-- The vote is as great as each that the decider has below this ballot.
abbrev pub Tells : World → ℕ → TxnId → Ballot → Option Vote → Type 0
Tells world n txn ballot last = (below : Ballot) (commits : Bool) → Has world n (value_accepted txn below commits) → rank below < rank ballot
    → Reaches (λ (vote : Vote). vote.ballot) last (rank below)

-- The decider has promised the ballot, and the vote is as great as each that it has below it.
pub record HasPromised (world : World) (n : ℕ) (txn : TxnId) (ballot : Ballot) (last : Option Vote) : Type 0 where
  pub has : Has world n (ballot_promised txn ballot)
  pub tells : Tells world n txn ballot last

-- The vote is below this ballot, and recorded somewhere.
abbrev pub IsBacked : World → TxnId → Ballot → Option Vote → Type 0
IsBacked world txn ballot None = ⊤
IsBacked world txn ballot (Some vote) = (rank vote.ballot < rank ballot) × ((n : ℕ) × Has world n (value_accepted txn vote.ballot vote.commits))

-- The value is the vote's, if there is one.
abbrev pub Follows : Option Vote → Bool → Type 0
Follows None commits = ⊤
Follows (Some vote) commits = commits ≡ vote.commits

-- A majority has promised the ballot, and the value is that of the greatest vote among them below it.
pub record IsSafe (setup : Setup) (world : World) (txn : TxnId) (ballot : Ballot) (commits : Bool) : Type 0 where
  pub counted : List ℕ
  pub most : is_majority setup.deciders (is_among counted) ≡ true
  pub last : Option Vote
  pub promises : (n : ℕ) → is_among counted n ≡ true → HasPromised world n txn ballot last
  pub backed : IsBacked world txn ballot last
  pub follows : Follows last commits

module _ (setup : Setup) (Proposed : TxnId → Bool → Type 0) (world : World) where
  -- An accepted value was accepted by the ballot's own decider, is safe, and was proposed.
  pub record IsValueSound (txn : TxnId) (ballot : Ballot) (commits : Bool) : Type 0 where
    pub own : Has world ballot.decider (value_accepted txn ballot commits)
    pub safe : IsSafe setup world txn ballot commits
    pub proposed : Proposed txn commits

  -- A promised ballot was promised by its own decider.
  abbrev pub IsRecordSound : Record → Type 0
  IsRecordSound (ballot_promised txn ballot) = Has world ballot.decider (ballot_promised txn ballot)
  IsRecordSound (value_accepted txn ballot commits) = IsValueSound txn ballot commits

  -- A ballot's decider has recorded what it asks for; a promise is recorded and tells the last vote; what is said to be
  -- accepted is.
  abbrev pub IsMessageSound : ℕ → Message → Type 0
  IsMessageSound from (prepare txn ballot) = (ballot.decider ≡ from) × Has world from (ballot_promised txn ballot)
  IsMessageSound from (promise txn ballot last) = HasPromised world from txn ballot last × IsBacked world txn ballot last
  IsMessageSound from (accept txn ballot commits) = (ballot.decider ≡ from) × Has world from (value_accepted txn ballot commits)
  IsMessageSound from (accepted txn ballot) = (commits : Bool) × Has world from (value_accepted txn ballot commits)

  -- In the first phase no value is accepted yet, and those counted have promised.
  pub record IsAskingSound (n : ℕ) (entry : Entry) : Type 0 where
    pub unused : (commits : Bool) → Has world n (value_accepted entry.txn entry.ballot commits) → ⊥
    pub promises : (k : ℕ) → is_among entry.counted k ≡ true → HasPromised world k entry.txn entry.ballot entry.last
    pub backed : IsBacked world entry.txn entry.ballot entry.last
    pub proposed : Proposed entry.txn entry.commits

  -- In the second phase those counted have accepted the value.
  abbrev pub IsAcceptingSound : Entry → Type 0
  IsAcceptingSound entry = (k : ℕ) → is_among entry.counted k ≡ true → Has world k (value_accepted entry.txn entry.ballot entry.commits)

  abbrev pub IsPhaseSound : ℕ → Entry → Phase → Type 0
  IsPhaseSound n entry asking = IsAskingSound n entry
  IsPhaseSound n entry accepting = IsAcceptingSound entry × Has world n (value_accepted entry.txn entry.ballot entry.commits)

  -- A ballot is made by the decider whose entry it is.
  pub record IsEntrySound (n : ℕ) (entry : Entry) : Type 0 where
    pub own : entry.ballot.decider ≡ n
    pub by_phase : IsPhaseSound n entry entry.phase

  abbrev pub IsLineSound : Line → Type 0
  IsLineSound (decided n txn commits) = IsChosen setup world txn commits
  IsLineSound (spent n) = ⊤
  IsLineSound (full n length) = ⊤

  -- All that is there is as it should be, and a ballot has one value.
  pub record IsSound : Type 0 where
    pub few : length world.deciders ≤ 5
    pub records : (n : ℕ) (kept : Record) → Has world n kept → IsRecordSound kept
    pub one : (txn : TxnId) (ballot : Ballot) (one other : Bool) → Has world ballot.decider (value_accepted txn ballot one)
        → Has world ballot.decider (value_accepted txn ballot other) → one ≡ other
    pub sent : (envelope : Envelope) → Contains world.sent envelope → IsMessageSound envelope.from envelope.message
    pub entries : (n : ℕ) (entry : Entry) → Holds world n entry → IsEntrySound n entry
    pub lines : (line : Line) → Contains world.lines line → IsLineSound line
