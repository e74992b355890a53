-- What a list of nodes stands for: each node for cases, which those of nodes before it make up.
use Rattle.std.specs.Prelude.{◌≡◌, ◌<◌, ◌^◌, ℕ, false, true, List, [], ◌∷◌, ◌++◌, length}
use Rattle.pv_base.specs.declared.txn.TxnId.{TxnId}
use Rattle.pv_base.specs.Polyvalue.{Case, under}
use Rattle.pv_cases.specs.Sides.{AreSides}
use Rattle.pv_tree.specs.declared.nodes.Node.{Node}
use Rattle.pv_tree.specs.declared.nodes.Node.TheVariants.{Leaf, Test}
use Rattle.pv_tree.specs.Meanings.{cases_at}

module _ {V : Type 0} where
  -- the cases of a node that stands behind those with these cases
  abbrev pub meaning_of : List (List (Case V)) → Node V → List (Case V)
  meaning_of meanings (Leaf value) = record { when = []; value = value } ∷ []
  meaning_of meanings (Test txn aborted committed) = under txn false (cases_at meanings aborted) ++ under txn true (cases_at meanings committed)

  -- Both sides of a test are nodes before this number, which name only later transactions and differ.
  pub record AreBelow (meanings : List (List (Case V))) (number : ℕ) (txn : TxnId) (aborted committed : ℕ) : Type 0 where
    pub aborted_below : aborted < number
    pub committed_below : committed < number
    pub sides : AreSides txn (cases_at meanings aborted) (cases_at meanings committed)

  -- The node may stand behind those with these cases.
  abbrev pub IsNext : List (List (Case V)) → Node V → Type 0
  IsNext meanings (Leaf value) = Unit {0}
  IsNext meanings (Test txn aborted committed) = AreBelow meanings (length meanings) txn aborted committed

  -- the cases of nodes, behind those of the nodes before them
  abbrev pub meanings_after : List (List (Case V)) → List (Node V) → List (List (Case V))
  meanings_after before [] = before
  meanings_after before (node ∷ nodes) = meanings_after (before ++ meaning_of before node ∷ []) nodes

  -- Each node may stand behind those before it.
  abbrev pub AreNext : List (List (Case V)) → List (Node V) → Type 0
  AreNext before [] = Unit {0}
  AreNext before (node ∷ nodes) = IsNext before node × AreNext (before ++ meaning_of before node ∷ []) nodes

  -- Each node may stand behind those before it, and numbers go round them.
  pub record AreNodes (nodes : List (Node V)) : Type 0 where
    pub next : AreNext [] nodes
    pub few : length nodes < 2 ^ 32

  -- A node with this number is a test of the transaction, with these nodes as its sides.
  pub record IsTestAt (meanings : List (List (Case V))) (number : ℕ) (txn : TxnId) (aborted committed : ℕ) : Type 0 where
    pub below : AreBelow meanings number txn aborted committed
    pub is : cases_at meanings number ≡ under txn false (cases_at meanings aborted) ++ under txn true (cases_at meanings committed)

  -- This is the node with this number.
  abbrev pub IsNodeAt : List (List (Case V)) → ℕ → Node V → Type 0
  IsNodeAt meanings number (Leaf value) = cases_at meanings number ≡ record { when = []; value = value } ∷ []
  IsNodeAt meanings number (Test txn aborted committed) = IsTestAt meanings number txn aborted committed
