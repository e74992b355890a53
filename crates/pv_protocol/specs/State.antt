-- What a site holds, and what one of its steps changes.
use Rattle.std.specs.Prelude.{ℕ, Bool, Option, List}
use Rattle.pv_base.specs.Catalog.{Declared}
use Rattle.pv_base.specs.Want.{Want}
use Rattle.pv_base.specs.declared.grant.GrantId.{GrantId}
use Rattle.pv_base.specs.declared.mode.Mode.{Mode}
use Rattle.pv_base.specs.declared.txn.TxnId.{TxnId}
use Rattle.pv_format.specs.Checkpoint.{Standing}
use Rattle.pv_format.specs.Message.{Message}
use Rattle.pv_format.specs.Record.{Record}
use Rattle.pv_model.specs.Alternatives.{Read}
use Rattle.pv_base.specs.declared.reply.Reply.{Reply}
use Rattle.pv_model.specs.Syntax.{Program}

-- What is fixed for a whole run: the catalog, how many outcomes the values granted to one transaction may name together,
-- and how many one polyvalue may name.
pub record Setup : Type 0 where
  pub catalog : Declared
  pub read_names : ℕ
  pub held_names : ℕ

-- A transaction is begun and decided by the site that its number names, its coordinator. The sites that own an item of its
-- program are its participants: each grants its locks there, and votes.

-- The items that a transaction holds at a site, each shared or exclusive, and for how many ticks.
pub record Grant : Type 0 where
  pub txn : TxnId
  pub id : GrantId
  pub wants : List Want
  pub age : ℕ

-- A coordinator first asks for locks, and after the lock point for votes. A transaction reaches its lock point when its
-- coordinator has taken the last of the grants that it asked for: from then on it holds all locks that it will ever hold.
pub data Stage : Type 0 where
  locking : Stage
  voting : Stage

-- what a participant granted to a transaction
pub record Taken : Type 0 where
  pub site : ℕ
  pub grant : GrantId
  pub values : List Read

-- What a coordinator knows of a transaction that it works on: its program and stage, for how many ticks it is in that stage, what
-- was taken, in the order of sites, and which sites voted yes.
pub record Entry : Type 0 where
  pub txn : TxnId
  pub program : Program
  pub stage : Stage
  pub age : ℕ
  pub taken : List Taken
  pub votes : List ℕ

-- what a site that is up has in memory
pub record Running : Type 0 where
  pub epoch : ℕ
  pub next_txn : ℕ
  pub next_grant : ℕ
  pub grants : List Grant
  pub entries : List Entry

-- The write or sync of this number from now on, counted from 1, stops the site or fails.
pub record Arm : Type 0 where
  pub call : ℕ
  pub mode : Mode
  pub stops : Bool

-- A site: its records, oldest first, how its log in two areas stands on its disk, the disk's armed fault, and what it has in memory where it is up.
pub record Site : Type 0 where
  pub records : List Record
  pub standing : Standing
  pub arm : Option Arm
  pub running : Option Running

-- what a running site is given to do
pub data Input : Type 0 where
  submit : Program → Input
  receive : (from : ℕ) → Message → Input
  tick : Input

-- why a transaction is refused
pub data Cause : Type 0 where
  -- at this site another transaction holds this item
  conflict : (site item : ℕ) (holder : TxnId) → Cause
  -- the values that were taken name so many outcomes together, which is more than may be
  outcome_limit : (names : ℕ) → Cause
  -- this item has to be certain, and its value depends on so many outcomes that the coordinator doesn't know
  uncertain : (item names : ℕ) → Cause
  -- the coordinator had no answer of this site in time
  expired : (site : ℕ) → Cause
  -- at this site the grant doesn't stand any more under which the vote was asked for
  grant_lost : (site : ℕ) → Cause
  -- the journal of this site would have this length with the promise or the commit, above its limit
  journal_full : (site length : ℕ) → Cause

-- what a step has to report
pub data Note : Type 0 where
  -- a request has begun this transaction
  began : TxnId → Note
  -- the transaction has committed, and these are the replies that it may have given
  committed : TxnId → List Reply → Note
  -- the transaction is refused
  refused : TxnId → Cause → Note
  -- the journal would have this length with an outcome that was reported to the site, above its limit
  full : (length : ℕ) → Note
  -- no number is left to give
  spent : Note

-- a message and where it goes
pub record Outgoing : Type 0 where
  pub to : ℕ
  pub message : Message

-- the grant that a transaction took at a participant
pub record TakenGrant : Type 0 where
  pub site : ℕ
  pub grant : GrantId

-- a transaction at its lock point: its program, and the grants that it took, one of each participant
pub record Placed : Type 0 where
  pub txn : TxnId
  pub program : Program
  pub grants : List TakenGrant

-- What a running site makes of an input: what it has in memory then, the record that it appends if it appends one, what it
-- sends and reports after that, and the transaction that reaches its lock point if one does.
pub record Step : Type 0 where
  pub running : Running
  pub appended : Option Record
  pub sends : List Outgoing
  pub notes : List Note
  pub placed : Option Placed
