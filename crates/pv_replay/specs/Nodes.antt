-- What is written of a tree by its cases, and what reading a node comes to.
use Rattle.std.specs.Prelude.{◌≡◌, ℕ, ℤ, not, if◌then◌else◌, List, [], ◌∷◌, ◌++◌}
use Rattle.std.specs.List.{flat_map, list_all}
use Rattle.pv_base.specs.BigEndian.{big_endian, twos_complement}
use Rattle.pv_base.specs.Polyvalue.{Case}
use Rattle.pv_base.specs.declared.literal.Literal.{Literal}
use Rattle.pv_base.specs.declared.txn.TxnId.{TxnId}
use Rattle.pv_bytes.specs.Reading.{Rest}
use Rattle.pv_cases.specs.CasesAt.{under_all}
use Rattle.pv_fields.specs.Decoding.{Passes}
use Rattle.pv_format.specs.Layout.{node_layout}
use Rattle.pv_format.specs.PolyvalueSpelling.{SpellsNode}
use Rattle.pv_format.specs.Tree.{Tree, cases_of}

-- the bytes of the front of a test
abbrev pub test_bytes : TxnId → List ℕ
test_bytes txn = 1 ∷ txn.site.0 ∷ (big_endian 4 txn.epoch ++ big_endian 4 txn.number)

-- the bytes of a leaf
abbrev pub leaf_bytes : ℤ → List ℕ
leaf_bytes value = 0 ∷ big_endian 8 (twos_complement value)

-- the bytes of the tests behind the last literal that asks for a commit
abbrev pub tests_bytes : List Literal → List ℕ
tests_bytes [] = []
tests_bytes (literal ∷ literals) =
    (if list_all (λ (one : Literal). not one.commits) (literal ∷ literals) then test_bytes literal.txn else []) ++ tests_bytes literals

-- the literals behind the last one that asks for a commit
abbrev pub begun : List Literal → List Literal
begun [] = []
begun (literal ∷ literals) = if list_all (λ (one : Literal). not one.commits) (literal ∷ literals) then literal ∷ literals else begun literals

-- the bytes of leaves, each behind such tests
abbrev pub leaves_bytes : List (Case ℤ) → List ℕ
leaves_bytes cases = flat_map (λ case. tests_bytes case.when ++ leaf_bytes case.value) cases

-- A node was read, with at most so many tests on each way down, and the cases of its tree were appended, each behind the literals of the way to it.
pub record IsNodeRead (tests : ℕ) (way : List Literal) (before after : List (Case ℤ)) (old new : Rest) : Type 0 where
  pub tree : Tree
  pub passes : Passes (SpellsNode tests tree) (node_layout tests) old new
  pub cases : after ≡ before ++ under_all way (cases_of tree)
