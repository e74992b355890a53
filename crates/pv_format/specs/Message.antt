-- The messages between sites.
use Rattle.std.specs.Prelude.{ℕ, Bool, List}
use Rattle.pv_base.specs.declared.grant.GrantId.{GrantId}
use Rattle.pv_base.specs.declared.txn.TxnId.{TxnId}
use Rattle.pv_base.specs.Want.{Want}
use Rattle.pv_model.specs.Alternatives.{Read}

-- Why a participant votes no.
pub data NoCause : Type 0 where
  -- the grant doesn't stand any more
  grant_lost : NoCause
  -- the journal with the record would have this length, above its limit
  journal_full : (length : ℕ) → NoCause

-- What a site sends another one about a transaction: two-phase commit (Gray, 1978), with locks asked for before it.
pub data Message : Type 0 where
  -- the coordinator asks for locks on these items, which are the receiver's
  lock : (txn : TxnId) (wants : List Want) → Message
  -- the participant has granted them, and these are the items' values now
  granted : (txn : TxnId) (grant : GrantId) (values : List Read) → Message
  -- this item is held by another transaction
  denied : (txn : TxnId) (item : ℕ) (holder : TxnId) → Message
  -- the coordinator asks for a vote on these new values, under the grant that was given
  prepare : (txn : TxnId) (grant : GrantId) (writes : List Read) → Message
  -- the participant has recorded them
  vote_yes : (txn : TxnId) → Message
  -- the participant has not, and won't
  vote_no : (txn : TxnId) (cause : NoCause) → Message
  -- the coordinator reports the outcome
  outcome_reported : (txn : TxnId) (commits : Bool) → Message
  -- the participant asks for the outcome
  ask : (txn : TxnId) → Message

-- the transaction that a message is about
abbrev pub txn_of : Message → TxnId
txn_of (lock txn wants) = txn
txn_of (granted txn grant values) = txn
txn_of (denied txn item holder) = txn
txn_of (prepare txn grant writes) = txn
txn_of (vote_yes txn) = txn
txn_of (vote_no txn cause) = txn
txn_of (outcome_reported txn commits) = txn
txn_of (ask txn) = txn

-- a message on its way, with the numbers of the sites that it comes from and goes to
pub record Envelope : Type 0 where
  pub from : ℕ
  pub to : ℕ
  pub message : Message
