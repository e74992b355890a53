-- Which bytes spell a polyvalue of numbers: its tree, each test once.
use Rattle.std.specs.Prelude.{◌≡◌, ℕ, zero, suc, ℤ, List, length, IsTrue}
use Rattle.pv_base.specs.BigEndian.{IsNumber, IsSigned}
use Rattle.pv_base.specs.declared.limits.TheConstants.{HELD_NAMES}
use Rattle.pv_base.specs.Polyvalue.{Case, IsPolyvalue}
use Rattle.pv_format.specs.Spelling.{◌followed_by◌, SpellsTxn}
use Rattle.pv_format.specs.Tree.{Tree, leaf, test, cases_of, is_sure}

-- A leaf is 0 and its value. A test is 1, its transaction, the tree where it aborts, and that where it commits. On no way down are there more tests than this number.
abbrev pub SpellsNode : ℕ → Tree → List ℕ → Type 0
SpellsNode tests (leaf value) = IsNumber 1 0 followed_by IsSigned value
SpellsNode zero (test txn aborted committed) = λ _. ⊥
SpellsNode (suc tests) (test txn aborted committed) =
    IsNumber 1 1 followed_by SpellsTxn txn followed_by SpellsNode tests aborted followed_by SpellsNode tests committed

-- A count and a tree, whether or not they are a polyvalue.
abbrev pub SpellsTree : ℕ → Tree → List ℕ → Type 0
SpellsTree count tree = IsNumber 2 count followed_by SpellsNode HELD_NAMES tree

-- A count and a tree are a polyvalue: the count is that of its cases, and these are canonical and name no more outcomes than a polyvalue may.
pub record IsFit (count : ℕ) (tree : Tree) : Type 0 where
  pub counted : count ≡ length (cases_of tree)
  pub polyvalue : IsPolyvalue HELD_NAMES (cases_of tree)

-- The bytes are the count of the cases and the tree that they are, and a polyvalue.
pub record SpellsPolyvalue (cases : List (Case ℤ)) (bytes : List ℕ) : Type 0 where
  pub tree : Tree
  pub is : cases_of tree ≡ cases
  pub polyvalue : IsPolyvalue HELD_NAMES cases
  pub spelled : SpellsTree (length cases) tree bytes

-- The same of one that is sure.
pub record SpellsSure (cases : List (Case ℤ)) (bytes : List ℕ) : Type 0 where
  pub polyvalue : SpellsPolyvalue cases bytes
  pub sure : IsTrue (is_sure cases)

-- The bytes begin with the polyvalue, and this is what comes after it.
abbrev pub BeginsWith : List (Case ℤ) → List ℕ → List ℕ → Type 0
BeginsWith cases rest = SpellsPolyvalue cases followed_by (λ back. back ≡ rest)
