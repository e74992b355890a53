-- The records of a decider, and what they say of a transaction.
use Rattle.std.specs.Prelude.{Bool, ◌&&◌, Option, Some, None, List, [], ◌∷◌, if◌then◌else◌, false}
use Rattle.std.specs.List.{list_any}
use Rattle.std.specs.Bool.{beq}
use Rattle.pv_base.specs.Assignment.{is_same_txn}
use Rattle.pv_base.specs.declared.txn.TxnId.{TxnId}
use Rattle.pv_law_quorum.specs.Ballot.{Ballot, is_same_ballot, greater}

pub data Record : Type 0 where
  -- the decider takes no part in a lower ballot of the transaction any more
  ballot_promised : TxnId → Ballot → Record
  -- the decider accepts the value in this ballot: whether the transaction commits
  value_accepted : TxnId → Ballot → (commits : Bool) → Record

-- a value, and the ballot in which it was accepted
pub record Vote : Type 0 where
  pub ballot : Ballot
  pub commits : Bool

-- the ballot that a record names for the transaction
abbrev pub named : TxnId → Record → Option Ballot
named txn (ballot_promised other ballot) = if is_same_txn txn other then Some ballot else None
named txn (value_accepted other ballot commits) = if is_same_txn txn other then Some ballot else None

-- the vote that a record has for the transaction
abbrev pub vote_in : TxnId → Record → Option Vote
vote_in txn (ballot_promised other ballot) = None
vote_in txn (value_accepted other ballot commits) = if is_same_txn txn other then Some (record { ballot = ballot; commits = commits }) else None

-- The promised ballot of a transaction: the greatest that a record of it names.
abbrev pub promised : TxnId → List Record → Option Ballot
promised txn [] = None
promised txn (kept ∷ records) = greater (λ (ballot : Ballot). ballot) (named txn kept) (promised txn records)

-- The greatest accepted ballot, with the value of its first record.
abbrev pub last_vote : TxnId → List Record → Option Vote
last_vote txn [] = None
last_vote txn (kept ∷ records) = greater (λ (vote : Vote). vote.ballot) (vote_in txn kept) (last_vote txn records)

-- The record accepts this value in this ballot.
abbrev pub accepts : TxnId → Ballot → Bool → Record → Bool
accepts txn ballot commits (ballot_promised other promise) = false
accepts txn ballot commits (value_accepted other taken value) = is_same_txn txn other && (is_same_ballot ballot taken && beq commits value)

-- That is recorded.
abbrev pub has_accepted : List Record → TxnId → Ballot → Bool → Bool
has_accepted records txn ballot commits = list_any (accepts txn ballot commits) records
