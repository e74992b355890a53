-- Transactions whose numbers a site may have given, and what is said of these alone.
use Rattle.std.specs.Prelude.{◌≡◌, ℕ, nat_le, Bool, List, Some, Contains, IsTrue}
use Rattle.pv_base.specs.Assignment.{commits}
use Rattle.pv_base.specs.Catalog.{Declared}
use Rattle.pv_base.specs.declared.txn.TxnId.{TxnId}
use Rattle.pv_format.specs.Record.{Record, outcome_known}
use Rattle.pv_law_values.specs.Fixed.{IsFixedBy}
use Rattle.pv_protocol.specs.Lock.{is_home}
use Rattle.pv_protocol.specs.Records.{known}
use Rattle.pv_protocol.specs.Shown.{item_value}

-- A site may have given the transaction its number: epochs begin at 1.
abbrev pub is_given : TxnId → Bool
is_given txn = nat_le 1 txn.epoch

-- The assignment has each outcome that the records tell of such a transaction.
abbrev pub HeedsGiven : List Record → List TxnId → Type 0
HeedsGiven records assignment =
    (txn : TxnId) (outcome : Bool) → IsTrue (is_given txn) → known records txn ≡ Some outcome → commits assignment txn ≡ outcome

-- What the records say of each item of the site depends on the outcomes of such transactions alone.
abbrev pub DependOnGiven : Declared → ℕ → List Record → Type 0
DependOnGiven catalog site records =
    (item : ℕ) → IsTrue (is_home catalog site item) → IsFixedBy is_given (item_value catalog records item)

-- No record contradicts an earlier one: each outcome that is recorded is the known one.
abbrev pub AreConsistent : List Record → Type 0
AreConsistent records = (txn : TxnId) (outcome : Bool) → Contains records (outcome_known txn outcome) → known records txn ≡ Some outcome
