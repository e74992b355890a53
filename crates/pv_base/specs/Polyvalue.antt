-- Polyvalues: values that depend on the outcomes of named transactions (Montgomery, 1979).
use Rattle.std.specs.Prelude.{◌≡◌, ℕ, ◌≤◌, Bool, true, false, List, [], ◌∷◌, ◌++◌, map, length, Option, Some, None, if◌then◌else◌, All, IsTrue}
use Rattle.std.specs.Bool.{beq}
use Rattle.std.specs.List.{AllPairs, Contains, filter, list_all, list_any}
use Rattle.pv_base.specs.declared.literal.Literal.{Literal}
use Rattle.pv_base.specs.declared.txn.TxnId.{TxnId}
use Rattle.pv_base.specs.Assignment.{is_same_txn, precedes, commits, with_outcome, AgreeOn, AreAscending, assignments}

-- a value under a condition, which is a list of literals
pub record Case (V : Type 0) : Type 0 where
  pub when : List Literal
  pub value : V

-- The literal's transaction has the outcome that the literal asks for.
abbrev pub is_met : List TxnId → Literal → Bool
is_met assignment literal = beq (commits assignment literal.txn) literal.commits

-- Every literal of the condition is met.
abbrev pub meets : List Literal → List TxnId → Bool
meets when assignment = list_all (is_met assignment) when

-- the assignment with the outcomes that these literals ask for, and else as it was
abbrev pub with_outcomes : List Literal → List TxnId → List TxnId
with_outcomes [] assignment = assignment
with_outcomes (literal ∷ literals) assignment = with_outcome literal.txn literal.commits (with_outcomes literals assignment)

-- The literals ascend by their transactions, and each is on another one.
abbrev pub AreOutcomes : List Literal → Type 0
AreOutcomes literals = AllPairs (λ (literal later : Literal). IsTrue (precedes literal.txn later.txn)) literals

module _ {V : Type 0} where
  -- the value of the first case that the assignment meets; where the cases are sound, of the one that it meets
  abbrev pub value_at : List (Case V) → List TxnId → Option V
  value_at [] assignment = None
  value_at (case ∷ cases) assignment = if meets case.when assignment then Some case.value else value_at cases assignment

  -- Every assignment meets exactly one case: the cases are complete and disjoint (Montgomery, 1979).
  abbrev pub IsSound : List (Case V) → Type 0
  IsSound cases = (assignment : List TxnId) → length (filter (λ case. meets case.when assignment) cases) ≡ 1

  -- Some literal names the transaction.
  abbrev pub names : List (Case V) → TxnId → Bool
  names cases txn = list_any (λ case. list_any (λ literal. is_same_txn txn literal.txn) case.when) cases

  -- The cases name only transactions after this one.
  abbrev pub NamesOnlyAfter : TxnId → List (Case V) → Type 0
  NamesOnlyAfter txn cases = (named : TxnId) → IsTrue (names cases named) → IsTrue (precedes txn named)

  -- the cases, each under one more literal, which stands in front
  abbrev pub under : TxnId → Bool → List (Case V) → List (Case V)
  under txn outcome cases = map (λ case. record { when = record { txn = txn; commits = outcome } ∷ case.when; value = case.value }) cases

  -- The one list of cases for its values: the leaves, from left to right, of the smallest decision tree over ascending
  -- transactions. The side on which the transaction aborts comes first, and a test with equal sides isn't made (Bryant, 1986).
  pub data IsCanonical : List (Case V) → Type 0 where
    sure : (value : V) → IsCanonical (record { when = []; value = value } ∷ [])
    tested : (txn : TxnId) (aborted committed : List (Case V)) → IsCanonical aborted → IsCanonical committed
        → NamesOnlyAfter txn aborted → NamesOnlyAfter txn committed
        → (aborted ≡ committed → ⊥) → IsCanonical (under txn false aborted ++ under txn true committed)

  -- The list is of the transactions that the cases name, in their order, each once. All cases have exactly one such list.
  pub record AreNames (cases : List (Case V)) (txns : List TxnId) : Type 0 where
    pub ascending : AreAscending txns
    pub each : All (λ txn. IsTrue (names cases txn)) txns
    pub whole : (txn : TxnId) → IsTrue (names cases txn) → Contains txns txn

  -- The cases name so many transactions at most.
  abbrev pub NamesAtMost : ℕ → List (Case V) → Type 0
  NamesAtMost limit cases = (txns : List TxnId) → AreNames cases txns → length txns ≤ limit

  -- The cases are canonical, and name so many transactions at most.
  pub record IsPolyvalue (limit : ℕ) (cases : List (Case V)) : Type 0 where
    pub canonical : IsCanonical cases
    pub few : NamesAtMost limit cases

  -- Two lists of cases have the same value at every assignment.
  abbrev pub AreSameEverywhere : List (Case V) → List (Case V) → Type 0
  AreSameEverywhere cases others = (assignment : List TxnId) → value_at cases assignment ≡ value_at others assignment

  -- The value is the same at assignments that have the same outcomes of the transactions in this set.
  abbrev pub DependsOnlyOn : (TxnId → Bool) → List (Case V) → Type 0
  DependsOnlyOn set cases = (assignment other : List TxnId) → AgreeOn set assignment other → value_at cases assignment ≡ value_at cases other

  -- The value is the second one where the transaction commits, and the first one where it aborts.
  abbrev pub IsChoice : TxnId → List (Case V) → List (Case V) → List (Case V) → Type 0
  IsChoice txn aborted committed cases =
      (assignment : List TxnId) → value_at cases assignment ≡ value_at (if commits assignment txn then committed else aborted) assignment

  -- The value at each assignment is the one before at that assignment with these outcomes put in, and none of their transactions is named.
  pub record IsSettled (literals : List Literal) (before after : List (Case V)) : Type 0 where
    pub same : (assignment : List TxnId) → value_at after assignment ≡ value_at before (with_outcomes literals assignment)
    pub unnamed : All (λ literal. names after literal.txn ≡ false) literals

  -- The value at each assignment of these transactions, in the order of `assignments`.
  abbrev pub AreValues : List (Case V) → List TxnId → List V → Type 0
  AreValues cases txns values = map Some values ≡ map (value_at cases) (assignments txns)

  -- The polyvalue of this choice names so many transactions.
  pub record ChoiceNames (txn : TxnId) (aborted committed : List (Case V)) (count : ℕ) : Type 0 where
    pub cases : List (Case V)
    pub canonical : IsCanonical cases
    pub choice : IsChoice txn aborted committed cases
    pub txns : List TxnId
    pub named : AreNames cases txns
    pub counted : length txns ≡ count
