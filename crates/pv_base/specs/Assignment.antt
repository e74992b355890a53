-- Assignments: which transactions commit.
use Rattle.std.specs.Prelude.{◌≡◌, Bool, not, ◌&&◌, ◌==◌, List, [], ◌∷◌, ◌++◌, map, if◌then◌else◌, IsTrue}
use Rattle.std.specs.List.{AllPairs, list_any, filter}
use Rattle.std.specs.declared.cmp.Ordering.{Ordering}
use Rattle.std.specs.Ordering.{nat_cmp, ordering_then, is_lt}
use Rattle.pv_base.specs.declared.txn.TxnId.{TxnId}

-- Both are the same transaction.
abbrev pub is_same_txn : TxnId → TxnId → Bool
is_same_txn t u = t.site.0 == u.site.0 && t.epoch == u.epoch && t.number == u.number

-- Transactions are ordered by site, then epoch, then number.
abbrev pub txn_cmp : TxnId → TxnId → Ordering
txn_cmp t u = ordering_then (nat_cmp t.site.0 u.site.0) (ordering_then (nat_cmp t.epoch u.epoch) (nat_cmp t.number u.number))

-- The one transaction comes before the other in that order.
abbrev pub precedes : TxnId → TxnId → Bool
precedes t u = is_lt (txn_cmp t u)

-- Each transaction precedes those after it, so none stands twice.
abbrev pub AreAscending : List TxnId → Type 0
AreAscending txns = AllPairs (λ txn later. IsTrue (precedes txn later)) txns

-- An assignment is the list of the transactions that commit. Every other transaction doesn't. Their order and repeats don't matter.
abbrev pub commits : List TxnId → TxnId → Bool
commits assignment txn = list_any (λ t. is_same_txn t txn) assignment

-- the assignment with this outcome of a transaction, and else as it was
abbrev pub with_outcome : TxnId → Bool → List TxnId → List TxnId
with_outcome txn outcome assignment =
    if outcome then txn ∷ assignment else filter (λ t. not (is_same_txn t txn)) assignment

-- Two assignments have the same outcomes of the transactions in this set.
abbrev pub AgreeOn : (TxnId → Bool) → List TxnId → List TxnId → Type 0
AgreeOn set assignment other = (txn : TxnId) → IsTrue (set txn) → commits assignment txn ≡ commits other txn

-- Every assignment of these transactions, with "doesn't commit" before "commits", the first transaction the most significant.
abbrev pub assignments : List TxnId → List (List TxnId)
assignments [] = [] ∷ []
assignments (txn ∷ txns) = assignments txns ++ map (λ assignment. txn ∷ assignment) (assignments txns)
