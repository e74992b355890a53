-- The cases of the steps of two-phase commit, each with what it comes from and the step that it is.
use Rattle.std.specs.Prelude.{◌≡◌, ℕ, ◌==◌, true, false, List, [], ◌∷◌, ◌++◌, Some, None}
use Rattle.pv_base.specs.declared.grant.GrantId.{GrantId}
use Rattle.pv_base.specs.declared.txn.TxnId.{TxnId}
use Rattle.pv_format.specs.Message.{NoCause, journal_full, vote_yes, vote_no}
use Rattle.pv_format.specs.Record.{prepared, outcome_known}
use Rattle.pv_model.specs.Alternatives.{Read}
use Rattle.pv_protocol.specs.Coordinate.{voting_entry, has_all_votes}
use Rattle.pv_protocol.specs.Here.{Here, remembering, nothing, sending, only_to, grant_of, with_entry, refusing, length_with, is_full}
use Rattle.pv_protocol.specs.Records.{is_prepared}
use Rattle.pv_protocol.specs.State as state
use Rattle.pv_protocol.specs.State.{Grant, Entry, Step}
use Rattle.pv_protocol.specs.Vote.{is_same_grant, are_writes_ignored, promising, losing, is_vote_ignored, committing, cause_of}

-- The transaction's own site asks, and it isn't prepared here.
pub record IsAsked (here : Here) (from : ℕ) (txn : TxnId) : Type 0 where
  pub own : (from == txn.site.0) ≡ true
  pub unprepared : is_prepared here.records txn ≡ false

-- The very grant stands.
pub record Stands (here : Here) (txn : TxnId) (grant : GrantId) (standing : Grant) : Type 0 where
  pub found : grant_of here.running txn ≡ Some standing
  pub same : is_same_grant grant standing.id ≡ true

-- The cases of a prepare message.
pub data PrepareCase (here : Here) (from : ℕ) (txn : TxnId) (grant : GrantId) (writes : List Read) : Step → Type 0 where
  not_its_site : (from == txn.site.0) ≡ false → PrepareCase here from txn grant writes (nothing here)
  again : (from == txn.site.0) ≡ true → is_prepared here.records txn ≡ true
      → PrepareCase here from txn grant writes (sending here.running (only_to txn.site.0 (vote_yes txn)))
  none_stands : IsAsked here from txn → grant_of here.running txn ≡ None → PrepareCase here from txn grant writes (losing here txn)
  other_stands : (standing : Grant) → IsAsked here from txn → grant_of here.running txn ≡ Some standing → is_same_grant grant standing.id ≡ false
      → PrepareCase here from txn grant writes (losing here txn)
  ignored : (standing : Grant) → IsAsked here from txn → Stands here txn grant standing → are_writes_ignored here standing writes ≡ true
      → PrepareCase here from txn grant writes (nothing here)
  no_room : (standing : Grant) → IsAsked here from txn → Stands here txn grant standing → are_writes_ignored here standing writes ≡ false
      → is_full here (prepared standing.txn writes) ≡ true
      → PrepareCase here from txn grant writes
      (sending here.running (only_to standing.txn.site.0 (vote_no standing.txn (journal_full (length_with here (prepared standing.txn writes))))))
  promises : (standing : Grant) → IsAsked here from txn → Stands here txn grant standing → are_writes_ignored here standing writes ≡ false
      → is_full here (prepared standing.txn writes) ≡ false → PrepareCase here from txn grant writes (promising here standing writes)

-- the entry with one more vote
abbrev pub voted : Entry → ℕ → Entry
voted entry from = record entry { votes = entry.votes ++ from ∷ [] }

-- The coordinator has this entry, and takes this vote.
pub record IsVote (here : Here) (from : ℕ) (txn : TxnId) (entry : Entry) : Type 0 where
  pub found : voting_entry here.running txn ≡ Some entry
  pub heard : is_vote_ignored here entry from ≡ false

-- The cases of a yes.
pub data YesCase (here : Here) (from : ℕ) (txn : TxnId) : Step → Type 0 where
  no_entry : voting_entry here.running txn ≡ None → YesCase here from txn (nothing here)
  ignored : (entry : Entry) → voting_entry here.running txn ≡ Some entry → is_vote_ignored here entry from ≡ true
      → YesCase here from txn (nothing here)
  waits : (entry : Entry) → IsVote here from txn entry → has_all_votes here (voted entry from) ≡ false
      → YesCase here from txn (remembering (with_entry here.running (voted entry from)))
  no_room : (entry : Entry) → IsVote here from txn entry → has_all_votes here (voted entry from) ≡ true
      → is_full here (outcome_known entry.txn true) ≡ true
      → YesCase here from txn (refusing here (voted entry from) (state.journal_full here.me (length_with here (outcome_known entry.txn true))))
  commits : (entry : Entry) → IsVote here from txn entry → has_all_votes here (voted entry from) ≡ true
      → is_full here (outcome_known entry.txn true) ≡ false → YesCase here from txn (committing here (voted entry from))

-- The cases of a no.
pub data NoCase (here : Here) (from : ℕ) (txn : TxnId) (cause : NoCause) : Step → Type 0 where
  no_entry : voting_entry here.running txn ≡ None → NoCase here from txn cause (nothing here)
  ignored : (entry : Entry) → voting_entry here.running txn ≡ Some entry → is_vote_ignored here entry from ≡ true
      → NoCase here from txn cause (nothing here)
  refuses : (entry : Entry) → IsVote here from txn entry → NoCase here from txn cause (refusing here entry (cause_of from cause))
