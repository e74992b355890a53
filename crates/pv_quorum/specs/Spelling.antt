-- The bytes of a decider's records, numbers with the most significant byte first.
use Rattle.std.specs.Prelude.{◌≡◌, ℕ, ◌^◌, ◌<◌, List, [], ◌++◌, Some, map, take, slice_get, All, if◌then◌else◌}
use Rattle.pv_base.specs.BigEndian.{big_endian}
use Rattle.pv_base.specs.declared.limits.TheConstants.{MAX_SITES}
use Rattle.pv_base.specs.declared.txn.TxnId.{TxnId}
use Rattle.pv_disk_model.specs.Size.{Contents, size_of}
use Rattle.pv_law_quorum.specs.Ballot.{Ballot}
use Rattle.pv_law_quorum.specs.Record.{Record, ballot_promised, value_accepted}

-- A transaction is its site, its epoch and its number.
abbrev pub txn_bytes : TxnId → List ℕ
txn_bytes txn = big_endian 1 txn.site.0 ++ (big_endian 4 txn.epoch ++ big_endian 4 txn.number)

-- A ballot is its number and its decider.
abbrev pub ballot_bytes : Ballot → List ℕ
ballot_bytes ballot = big_endian 4 ballot.number ++ big_endian 1 ballot.decider

-- the number of each kind of record
abbrev pub kind_of : Record → ℕ
kind_of (ballot_promised txn ballot) = 33
kind_of (value_accepted txn ballot commits) = 34

abbrev pub txn_in : Record → TxnId
txn_in (ballot_promised txn ballot) = txn
txn_in (value_accepted txn ballot commits) = txn

abbrev pub ballot_in : Record → Ballot
ballot_in (ballot_promised txn ballot) = ballot
ballot_in (value_accepted txn ballot commits) = ballot

-- the value, if the record has one: 1 commits
abbrev pub value_bytes : Record → List ℕ
value_bytes (ballot_promised txn ballot) = []
value_bytes (value_accepted txn ballot commits) = big_endian 1 (if commits then 1 else 0)

-- A record is its kind, its transaction, its ballot, and its value if it has one.
abbrev pub record_bytes : Record → List ℕ
record_bytes entry = big_endian 1 (kind_of entry) ++ (txn_bytes (txn_in entry) ++ (ballot_bytes (ballot_in entry) ++ value_bytes entry))

-- Each number of the record fits its bytes, and its transaction's site is one that there may be.
pub record IsInRange (entry : Record) : Type 0 where
  pub site : (txn_in entry).site.0 < MAX_SITES
  pub epoch : (txn_in entry).epoch < 2 ^ 32
  pub number : (txn_in entry).number < 2 ^ 32
  pub ballot : (ballot_in entry).number < 2 ^ 32
  pub decider : (ballot_in entry).decider < 256

-- The bytes are a record's.
pub record Spells (entry : Record) (bytes : List ℕ) : Type 0 where
  pub range : IsInRange entry
  pub bytes_are : bytes ≡ record_bytes entry

-- The bytes are no record's.
abbrev pub IsNoRecord : List ℕ → Type 0
IsNoRecord bytes = (entry : Record) → Spells entry bytes → ⊥

-- The contents are those of the records.
pub record SpellRecords (entries : List Record) (contents : Contents) : Type 0 where
  pub range : All IsInRange entries
  pub bytes_are : contents ≡ map record_bytes entries

-- The content at this place is no record's, and those before it are records'.
pub record IsFirstBadContent (contents : Contents) (place : ℕ) : Type 0 where
  pub content : List ℕ
  pub there : slice_get contents place ≡ Some content
  pub none : IsNoRecord content
  pub entries : List Record
  pub before : SpellRecords entries (take place contents)

-- how long a log of these records is, in bytes
abbrev pub length_of : List Record → ℕ
length_of entries = size_of (map record_bytes entries)
