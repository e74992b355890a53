-- Cases that name nothing before a transaction.
use Rattle.std.specs.Prelude.{◌≡◌, ◌≤◌, ◌<◌, ◌⊎◌, Bool, List, length, IsTrue, Option, None, Some, if◌then◌else◌}
use Rattle.pv_base.specs.declared.txn.TxnId.{TxnId}
use Rattle.pv_base.specs.Assignment.{commits, precedes}
use Rattle.pv_base.specs.Polyvalue.{Case, value_at, names, IsCanonical, NamesOnlyAfter}

-- the transaction, if it is before the other
abbrev pub before : TxnId → TxnId → Option TxnId
before txn top = if precedes top txn then Some top else None

-- the earlier of two
abbrev pub earlier : TxnId → TxnId → TxnId
earlier top other = if precedes other top then other else top

-- the earlier of the two, if there is one and it comes before the transaction
abbrev pub first_before : TxnId → Option TxnId → Option TxnId → Option TxnId
first_before txn None None = None
first_before txn None (Some other) = before txn other
first_before txn (Some top) None = before txn top
first_before txn (Some top) (Some other) = before txn (earlier top other)

module _ {V : Type 0} where
  -- The cases name only this transaction and later ones.
  abbrev pub NamesFrom : TxnId → List (Case V) → Type 0
  NamesFrom txn cases = (named : TxnId) → IsTrue (names cases named) → (txn ≡ named) ⊎ IsTrue (precedes txn named)

  -- This is the first transaction that the cases name, if they name any.
  abbrev pub IsFirst : List (Case V) → Option TxnId → Type 0
  IsFirst cases None = (named : TxnId) → IsTrue (names cases named) → ⊥
  IsFirst cases (Some txn) = IsTrue (names cases txn) × NamesFrom txn cases

  -- This is the first transaction before this one that one of two lists of cases names, if they name any before it.
  abbrev pub IsFirstOf : TxnId → List (Case V) → List (Case V) → Option TxnId → Type 0
  IsFirstOf txn aborted committed None = NamesFrom txn aborted × NamesFrom txn committed
  IsFirstOf txn aborted committed (Some first) =
      IsTrue (precedes first txn) × (NamesFrom first aborted × (NamesFrom first committed × (IsTrue (names aborted first) ⊎ IsTrue (names committed first))))

  -- One side of cases that name nothing before the transaction: their values where it has this outcome.
  pub record IsSide (txn : TxnId) (outcome : Bool) (cases side : List (Case V)) : Type 0 where
    pub same : (assignment : List TxnId) → commits assignment txn ≡ outcome → value_at side assignment ≡ value_at cases assignment
    pub named : (other : TxnId) → IsTrue (names side other) → IsTrue (names cases other)
    pub after : NamesOnlyAfter txn side
    pub canonical : IsCanonical side
    pub shorter : length side ≤ length cases
    pub smaller : IsTrue (names cases txn) → length side < length cases
