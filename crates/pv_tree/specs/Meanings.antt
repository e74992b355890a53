-- What nodes stand for, by their numbers: the cases of each.
use Rattle.std.specs.Prelude.{◌≡◌, ◌≤◌, ◌<◌, ◌⊎◌, ◌++◌, ℕ, List, [], length, get_or, IsTrue}
use Rattle.std.specs.List.{Contains}
use Rattle.pv_base.specs.declared.literal.Literal.{Literal}
use Rattle.pv_base.specs.declared.txn.TxnId.{TxnId}
use Rattle.pv_base.specs.Polyvalue.{Case, names, AreValues, IsCanonical, IsChoice}
use Rattle.pv_cases.specs.CasesAt.{under_all}

module _ {V : Type 0} where
  -- the cases of the node with this number
  abbrev pub cases_at : List (List (Case V)) → ℕ → List (Case V)
  cases_at meanings number = get_or meanings number []

  -- There is a node with this number, and these are its cases.
  pub record IsAt (meanings : List (List (Case V))) (number : ℕ) (cases : List (Case V)) : Type 0 where
    pub there : number < length meanings
    pub is : cases_at meanings number ≡ cases

  -- The first cases are those of the node with this number, each behind the literals of the way, and the others come behind them.
  pub record IsRead (way : List Literal) (cases : List (Case V)) (meanings : List (List (Case V))) (number : ℕ) (rest : List (Case V)) : Type 0 where
    pub there : number < length meanings
    pub canonical : IsCanonical (cases_at meanings number)
    pub is : cases ≡ under_all way (cases_at meanings number) ++ rest

  -- Every node that was there is there, and has its cases.
  pub record Keeps (old new : List (List (Case V))) : Type 0 where
    pub longer : length old ≤ length new
    pub kept : (number : ℕ) → number < length old → cases_at new number ≡ cases_at old number

  -- The node with this number is a polyvalue that has the value of the second cases where the transaction commits, and else of the first ones. It
  -- names nothing but the transaction and what they name.
  pub record Chooses (txn : TxnId) (aborted committed : List (Case V)) (meanings : List (List (Case V))) (number : ℕ) : Type 0 where
    pub there : number < length meanings
    pub choice : IsChoice txn aborted committed (cases_at meanings number)
    pub named : (named : TxnId) → IsTrue (names (cases_at meanings number) named) → (txn ≡ named) ⊎ (IsTrue (names aborted named) ⊎ IsTrue (names committed named))
    pub canonical : IsCanonical (cases_at meanings number)

  -- The node with this number is the polyvalue that has these values at the assignments of these transactions, and names no others.
  pub record Tabulates (txns : List TxnId) (values : List V) (meanings : List (List (Case V))) (number : ℕ) : Type 0 where
    pub there : number < length meanings
    pub has : AreValues (cases_at meanings number) txns values
    pub named : (txn : TxnId) → IsTrue (names (cases_at meanings number) txn) → Contains txns txn
    pub canonical : IsCanonical (cases_at meanings number)
