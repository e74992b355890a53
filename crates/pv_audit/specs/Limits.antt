-- Where the serial run of a report's order depends on more outcomes together than values may.
use Rattle.std.specs.Prelude.{◌≡◌, ℕ, ℤ, ◌≤◌, ◌<◌, Bool, ◌||◌, Some, List, [], ◌∷◌, ◌++◌, filter, length, IsTrue, ◌⊎◌}
use Rattle.pv_audit.specs.Agreement.{with_committed}
use Rattle.pv_audit.specs.Reports.{Report, order_of, is_in}
use Rattle.pv_base.specs.Catalog.{Declared}
use Rattle.pv_base.specs.Polyvalue.{Case, value_at, IsCanonical, AreNames}
use Rattle.pv_base.specs.declared.limits.TheConstants.{HELD_NAMES, READ_NAMES}
use Rattle.pv_base.specs.declared.txn.TxnId.{TxnId}
use Rattle.pv_model.specs.Alternatives.{Read, all_cases}
use Rattle.pv_model.specs.Check.{AreItems}
use Rattle.pv_model.specs.Meaning.{value_in}
use Rattle.pv_model.specs.Serial.{Ordered, declared_rows, serial}

-- what an assignment comes to for a report: the committed transactions commit, of the open ones those of the assignment, and no other
abbrev pub as_told : Report → List TxnId → List TxnId
as_told told assignment = with_committed told (filter (is_in told.open_ones) assignment)

-- The cases are the item's value after these transactions, as the one canonical polyvalue over the open outcomes.
pub record IsValueAfter (catalog : Declared) (told : Report) (done : List Ordered) (n : ℕ) (cases : List (Case ℤ)) : Type 0 where
  pub canonical : IsCanonical cases
  pub same : (assignment : List TxnId) → value_at cases assignment ≡ Some (value_in (serial (declared_rows catalog) done (as_told told assignment)) n)

-- each item's value after these transactions
pub data AreValuesAfter (catalog : Declared) (told : Report) (done : List Ordered) : List ℕ → List Read → Type 0 where
  none : AreValuesAfter catalog told done [] []
  more : (n : ℕ) (cases : List (Case ℤ)) (items : List ℕ) (reads : List Read) → IsValueAfter catalog told done n cases
      → AreValuesAfter catalog told done items reads
      → AreValuesAfter catalog told done (n ∷ items) (record { item = n; cases = cases } ∷ reads)

-- The transaction runs at some assignment: it is committed or open.
abbrev pub runs : Report → TxnId → Bool
runs told txn = is_in told.committed txn || is_in told.open_ones txn

-- The values of these items after these transactions name so many outcomes together.
pub record NameTogether (catalog : Declared) (told : Report) (done : List Ordered) (items : List ℕ) (count : ℕ) : Type 0 where
  pub reads : List Read
  pub are : AreValuesAfter catalog told done items reads
  pub txns : List TxnId
  pub named : AreNames (all_cases reads) txns
  pub counted : length txns ≡ count

-- The transaction, after those that are done, reads items that name so many outcomes together, which is more than it may.
pub record ReadsTooMany (catalog : Declared) (told : Report) (done : List Ordered) (entry : Ordered) (count : ℕ) : Type 0 where
  pub items : List ℕ
  pub are : AreItems entry.program items
  pub name : NameTogether catalog told done items count
  pub over : READ_NAMES < count

-- It leaves a value that names so many outcomes, which is more than it may.
pub record HoldsTooMany (catalog : Declared) (told : Report) (done : List Ordered) (entry : Ordered) (count : ℕ) : Type 0 where
  pub item : ℕ
  pub declared : item < length catalog.items
  pub name : NameTogether catalog told (done ++ entry ∷ []) (item ∷ []) count
  pub over : HELD_NAMES < count
  -- no item before it does
  pub first : (other more : ℕ) → other < item → NameTogether catalog told (done ++ entry ∷ []) (other ∷ []) more → more ≤ HELD_NAMES

-- The serial run passes a limit at the transaction behind those that are done, with this count: at what it reads, or else at what it leaves.
pub record IsPassedAt (catalog : Declared) (told : Report) (done : List Ordered) (count : ℕ) : Type 0 where
  pub entry : Ordered
  pub behind : List Ordered
  pub split : order_of told ≡ done ++ entry ∷ behind
  pub running : IsTrue (runs told entry.txn)
  pub too_many : ReadsTooMany catalog told done entry count
      ⊎ (((more : ℕ) → ReadsTooMany catalog told done entry more → ⊥) × HoldsTooMany catalog told done entry count)

-- The first place at which the serial run passes a limit has this count.
pub record PassesLimit (catalog : Declared) (told : Report) (count : ℕ) : Type 0 where
  pub done : List Ordered
  pub passed : IsPassedAt catalog told done count
  pub first : (other : List Ordered) (more : ℕ) → IsPassedAt catalog told other more → length done ≤ length other
