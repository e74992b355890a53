-- What a run prints, line by line.
use Rattle.std.specs.Prelude.{ℕ, ℤ, List, map}
use Rattle.pv_base.specs.Polyvalue.{Case}
use Rattle.pv_base.specs.declared.txn.TxnId.{TxnId}
use Rattle.pv_format.specs.Message.{Message}
use Rattle.pv_base.specs.declared.reply.Reply.{Reply}
use Rattle.pv_protocol.specs.State.{Cause, Note}

-- what a message is, without what it has beside its transaction
pub data MessageKind : Type 0 where
  lock : MessageKind
  granted : MessageKind
  denied : MessageKind
  prepare : MessageKind
  yes : MessageKind
  no : MessageKind
  outcome : MessageKind
  ask : MessageKind

-- the kind of a message
abbrev pub kind_of : Message → MessageKind
kind_of (Message.lock txn wants) = MessageKind.lock
kind_of (Message.granted txn grant values) = MessageKind.granted
kind_of (Message.denied txn item holder) = MessageKind.denied
kind_of (Message.prepare txn grant writes) = MessageKind.prepare
kind_of (Message.vote_yes txn) = MessageKind.yes
kind_of (Message.vote_no txn cause) = MessageKind.no
kind_of (Message.outcome_reported txn commits) = MessageKind.outcome
kind_of (Message.ask txn) = MessageKind.ask

-- one line
pub data Line : Type 0 where
  -- a request has begun a transaction
  txn : TxnId → Line
  -- it has committed, and these are the replies that it may have given
  commit : TxnId → List Reply → Line
  -- it is refused
  refuse : TxnId → Cause → Line
  -- the site's journal would have this length with the record, which is more than its limit
  full : (site length : ℕ) → Line
  -- the site has no number left to give
  spent : (site : ℕ) → Line
  -- the site is down, so it takes nothing
  down : (site : ℕ) → Line
  -- the site is up, so it isn't started
  up : (site : ℕ) → Line
  -- the site has stopped
  stopped : (site : ℕ) → Line
  -- a write or a sync of the site's disk has failed
  fault : (site : ℕ) → Line
  started : (site epoch : ℕ) → Line
  -- no message of this number was sent
  no_message : ℕ → Line
  -- a message that was sent: its number, its sender and its receiver, its kind, and the transaction that it is of
  sent : (number from to : ℕ) → MessageKind → TxnId → Line
  -- the transactions in the order of their lock points, and those of them that are committed, and open
  order : List TxnId → Line
  committed : List TxnId → Line
  open_ones : List TxnId → Line
  -- an item with its value, or with the transaction that holds it, or at a site that is down
  item : (item : ℕ) → List (Case ℤ) → Line
  item_locked : (item : ℕ) → TxnId → Line
  item_down : (item : ℕ) → Line
  end : Line
  -- the sums that all items may have, or why they aren't known
  total : List ℤ → Line
  total_locked : (item : ℕ) → Line
  total_down : (site : ℕ) → Line
  total_limit : (names : ℕ) → Line

-- what a note of a site's step prints
abbrev pub line_of : ℕ → Note → Line
line_of site (Note.began t) = txn t
line_of site (Note.committed t replies) = commit t replies
line_of site (Note.refused t cause) = refuse t cause
line_of site (Note.full length) = full site length
line_of site Note.spent = spent site

-- what the notes of a step print, in their order
abbrev pub lines_of : ℕ → List Note → List Line
lines_of site notes = map (line_of site) notes
