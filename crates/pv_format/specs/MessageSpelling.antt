-- Which bytes spell a message on its way.
use Rattle.std.specs.Prelude.{ℕ, List, if◌then◌else◌}
use Rattle.pv_base.specs.BigEndian.{IsNumber}
use Rattle.pv_base.specs.Want.{Want}
use Rattle.pv_format.specs.Message.{Envelope, Message, lock, granted, denied, prepare, vote_yes, vote_no, outcome_reported, ask, NoCause, grant_lost, journal_full, txn_of}
use Rattle.pv_format.specs.RecordSpelling.{SpellsReads, are_sure}
use Rattle.pv_format.specs.Spelling.{◌followed_by◌, IsEmpty, IsAllowed, IsSite, IsTruth, SpellsTxn, SpellsGrant, SpellsEntries, is_item_from}

-- the number of each kind of message: values of which one isn't sure make a kind of their own
abbrev pub kind_number : Message → ℕ
kind_number (lock txn wants) = 1
kind_number (granted txn grant values) = if are_sure values then 2 else 18
kind_number (denied txn item holder) = 3
kind_number (prepare txn grant writes) = if are_sure writes then 4 else 20
kind_number (vote_yes txn) = 5
kind_number (vote_no txn cause) = 6
kind_number (outcome_reported txn commits) = 7
kind_number (ask txn) = 8

-- Items with whether the transaction may change them, at least so many.
abbrev pub SpellsWants : ℕ → List Want → List ℕ → Type 0
SpellsWants = SpellsEntries (λ want. IsTruth want.exclusive) (λ want. want.item)

-- A cause is 1 where the grant is lost, and 2 and a length where the journal is full.
abbrev pub SpellsNoCause : NoCause → List ℕ → Type 0
SpellsNoCause grant_lost = IsNumber 1 1
SpellsNoCause (journal_full length) = IsNumber 1 2 followed_by IsNumber 8 length

-- what stands in a message after its transaction
abbrev pub SpellsBody : Message → List ℕ → Type 0
SpellsBody (lock txn wants) = SpellsWants 1 wants
SpellsBody (granted txn grant values) = SpellsGrant grant followed_by SpellsReads 1 values
SpellsBody (denied txn item holder) = IsAllowed 4 (is_item_from 0) item followed_by SpellsTxn holder
SpellsBody (prepare txn grant writes) = SpellsGrant grant followed_by SpellsReads 0 writes
SpellsBody (vote_yes txn) = IsEmpty
SpellsBody (vote_no txn cause) = SpellsNoCause cause
SpellsBody (outcome_reported txn commits) = IsTruth commits
SpellsBody (ask txn) = IsEmpty

-- What stands in a message after its kind: the sites that it comes from and goes to, its transaction, and what its kind has besides.
abbrev pub SpellsAfterKind : Envelope → List ℕ → Type 0
SpellsAfterKind envelope =
    IsSite envelope.from followed_by IsSite envelope.to followed_by SpellsTxn (txn_of envelope.message) followed_by SpellsBody envelope.message

-- A message is its kind and this.
abbrev pub SpellsEnvelope : Envelope → List ℕ → Type 0
SpellsEnvelope envelope = IsNumber 1 (kind_number envelope.message) followed_by SpellsAfterKind envelope
