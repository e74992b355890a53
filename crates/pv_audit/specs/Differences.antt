-- Where printed cases have other values than the serial run, and what is answered of a printed line.
use Rattle.std.specs.Prelude.{◌≡◌, ℕ, ℤ, ◌<◌, ⊤, Bool, Option, Some, None, List, [], ◌∷◌, ◌++◌, if◌then◌else◌, IsTrue}
use Rattle.std.specs.List.{Contains, filter_map}
use Rattle.pv_audit.specs.Agreement.{AreOpen, LineAgrees, with_committed}
use Rattle.pv_audit.specs.Findings.{open_lists}
use Rattle.pv_audit.specs.FirstFailures.{IsFirstFailure}
use Rattle.pv_audit.specs.Reports.{Report, is_in}
use Rattle.pv_base.specs.Assignment.{AreAscending, assignments}
use Rattle.pv_base.specs.Catalog.{Declared}
use Rattle.pv_base.specs.Polyvalue.{Case, IsPolyvalue, IsSettled, names, value_at}
use Rattle.pv_base.specs.declared.limits.TheConstants.{HELD_NAMES}
use Rattle.pv_base.specs.declared.literal.Literal.{Literal}
use Rattle.pv_base.specs.declared.txn.TxnId.{TxnId}
use Rattle.pv_protocol.specs.Lines.{Line}

-- Both have the same value at the assignment.
abbrev pub AreSameUnder : List (Case ℤ) → List (Case ℤ) → List TxnId → Type 0
AreSameUnder cases others assignment = value_at cases assignment ≡ value_at others assignment

-- Both have the same value where the committed transactions commit, and these open ones.
abbrev pub AreSameAt : Report → List (Case ℤ) → List (Case ℤ) → List TxnId → Type 0
AreSameAt told cases others txns = AreSameUnder cases others (with_committed told txns)

-- They have it for every list of open transactions.
abbrev pub AreSameForOpen : Report → List (Case ℤ) → List (Case ℤ) → Type 0
AreSameForOpen told cases others = (txns : List TxnId) → AreOpen told txns → AreSameAt told cases others txns

-- The first list of open transactions at which they differ.
abbrev pub IsFirstList : Report → List (Case ℤ) → List (Case ℤ) → List TxnId → Type 0
IsFirstList told cases others txns = IsFirstFailure (AreSameAt told cases others) (open_lists told) txns

-- The cases name open transactions alone.
abbrev pub NamesOnlyOpen : Report → List (Case ℤ) → Type 0
NamesOnlyOpen told cases = (txn : TxnId) → IsTrue (names cases txn) → IsTrue (is_in told.open_ones txn)

-- The polyvalue is the printed cases over the open outcomes: the committed transactions commit, and no other but the open ones does.
pub record IsShown (told : Report) (cases shown : List (Case ℤ)) : Type 0 where
  pub polyvalue : IsPolyvalue HELD_NAMES shown
  pub names : NamesOnlyOpen told shown
  pub same : AreSameForOpen told cases shown

-- what a report says of a transaction, unless it is open
abbrev pub known_in : Report → TxnId → Option Literal
known_in told txn = if is_in told.open_ones txn then None else Some (record { txn = txn; commits = is_in told.committed txn })

-- what it says of these transactions
abbrev pub known_of : Report → List TxnId → List Literal
known_of told txns = filter_map (known_in told) txns

-- The outcome of the transaction is known of both polyvalues.
pub record AreSettled (txn : TxnId) (outcome : Bool) (first second first_now second_now : List (Case ℤ)) : Type 0 where
  pub first_is : IsSettled (record { txn = txn; commits = outcome } ∷ []) first first_now
  pub second_is : IsSettled (record { txn = txn; commits = outcome } ∷ []) second second_now
  pub polyvalue : IsPolyvalue HELD_NAMES first_now
  pub polyvalue_too : IsPolyvalue HELD_NAMES second_now

-- While the first list is looked for at which two polyvalues differ: they are these now, differ still, and name only transactions that are left. The first list of
-- those at which these differ, behind the list so far, is the first one for them.
pub record Leads (first second : List (Case ℤ)) (txns named : List TxnId) (first_now second_now : List (Case ℤ)) (left list : List TxnId) : Type 0 where
  pub polyvalue : IsPolyvalue HELD_NAMES first_now
  pub polyvalue_too : IsPolyvalue HELD_NAMES second_now
  pub differ : first_now ≡ second_now → ⊥
  pub ascending : AreAscending left
  pub names_left : (txn : TxnId) → IsTrue (names first_now txn) → Contains left txn
  pub names_left_too : (txn : TxnId) → IsTrue (names second_now txn) → Contains left txn
  pub names_listed : (txn : TxnId) → IsTrue (names first_now txn) → Contains named txn
  pub names_listed_too : (txn : TxnId) → IsTrue (names second_now txn) → Contains named txn
  pub leads : (more : List TxnId) → IsFirstFailure (AreSameUnder first_now second_now) (assignments left) more
      → IsFirstFailure (AreSameUnder first second) (assignments txns) (list ++ more)

-- A printed item is one of so many.
abbrev pub IsItemOf : ℕ → Line → Type 0
IsItemOf count (Line.item n cases) = n < count
IsItemOf count line = ⊤

-- A printed item has the cases of a polyvalue.
abbrev pub HasPolyvalue : Line → Type 0
HasPolyvalue (Line.item n cases) = IsPolyvalue HELD_NAMES cases
HasPolyvalue line = ⊤

-- The line agrees for every list of open transactions.
abbrev pub LineIsFine : Declared → Report → Line → Type 0
LineIsFine catalog told line = (txns : List TxnId) → AreOpen told txns → LineAgrees catalog told txns line

-- The line is of this item, and doesn't agree for the list, but for each list before it.
pub record IsAstray (catalog : Declared) (told : Report) (line : Line) (item : ℕ) (txns : List TxnId) : Type 0 where
  pub cases : List (Case ℤ)
  pub is : line ≡ Line.item item cases
  pub first : IsFirstFailure (λ other. LineAgrees catalog told other line) (open_lists told) txns
