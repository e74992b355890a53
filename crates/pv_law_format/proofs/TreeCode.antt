-- Trees are a code, though their layout goes by the tests that may still come.
use Rattle.std.proofs.Common.{◌≡◌, ℕ, zero, suc, List, refl, subst, arith}
use Rattle.std.specs.Prelude.{ℤ, pos, ◌==◌, IsTrue, if◌then◌else◌}
use Rattle.std.proofs.lemmas.Bool.{ltb-true}
use Rattle.pv_base.specs.BigEndian.{IsNumber, IsSigned}
use Rattle.pv_base.specs.declared.txn.TxnId.{TxnId}
use Rattle.pv_base.specs.Polyvalue.{Case}
use Rattle.pv_format.specs.FirstFault.{Fault}
use Rattle.pv_format.specs.Form.{Form}
use Rattle.pv_format.specs.Layout.{Layout, number_then, any, node_layout, txn_layout}
use Rattle.pv_format.specs.PolyvalueSpelling.{SpellsNode}
use Rattle.pv_format.specs.Spelling.{◌followed_by◌, IsAllowed, SpellsTxn, is_truth}
use Rattle.pv_format.specs.Tree.{Tree, leaf, test}
use Rattle.pv_law_format.proofs.Codes.{IsCode, both-code, code-where, with-first}
use Rattle.pv_law_format.proofs.ListCodes.{numbered-code}
use Rattle.pv_law_format.proofs.NumberCodes.{number-code, signed-code}
use Rattle.pv_law_format.proofs.PartCodes.{txn-code}

-- what a node has after its first byte
abbrev Rest : ℕ → Type 0
Rest zero = ℤ
Rest (suc n) = TxnId × (Tree × Tree)

abbrev mark_of : Tree → ℕ
mark_of (leaf value) = 0
mark_of (test txn aborted committed) = 1

abbrev rest_of : (tree : Tree) → Rest (mark_of tree)
rest_of (leaf value) = value
rest_of (test txn aborted committed) = (txn, (aborted, committed))

abbrev tree_of : (n : ℕ) → Rest n → Tree
tree_of zero value = leaf value
tree_of (suc n) parts = test parts.0 parts.1.0 parts.1.1

back : (tree : Tree) → tree_of (mark_of tree) (rest_of tree) ≡ tree
back (leaf value) = refl
back (test txn aborted committed) = refl

-- the value of a leaf
abbrev value_of : Tree → ℤ
value_of (leaf value) = value
value_of (test txn aborted committed) = pos 0

abbrev SpellsRest : ℕ → (n : ℕ) → Rest n → List ℕ → Type 0
SpellsRest tests zero value = IsSigned value
SpellsRest tests (suc n) parts = SpellsTxn parts.0 followed_by SpellsNode tests parts.1.0 followed_by SpellsNode tests parts.1.1

is-zero : (n : ℕ) → IsTrue (n == 0) → n ≡ 0
is-zero n is = grind arith

module _ (SpellsPart : Form → List (Case ℤ) → List ℕ → Type 0) (PartFault : Form → ℕ → List ℕ → Fault → Type 0) where
  -- Where no test may come any more.

  leaf-back : (tree : Tree) (front : List ℕ) → SpellsNode zero tree front → leaf (value_of tree) ≡ tree
  leaf-back (leaf value) front s = refl
  leaf-back (test txn aborted committed) front s = absurd s

  leaf-so : (tree : Tree) (front : List ℕ) → SpellsNode zero tree front → (IsAllowed 1 (λ n. n == 0) 0 followed_by IsSigned (value_of tree)) front
  leaf-so (leaf value) front s = with-first (λ f t. record { spelled = t; allowed = refl }) s
  leaf-so (test txn aborted committed) front s = absurd s

  leaf-too : (p : (n : ℕ) × ℤ) (front : List ℕ) → (IsAllowed 1 (λ n. n == 0) p.0 followed_by IsSigned p.1) front → SpellsNode zero (leaf p.1) front
  leaf-too p front s = with-first (λ f t. subst (λ (n : ℕ). IsNumber 1 n f) (is-zero p.0 t.allowed) t.spelled) s

  -- Where so many may.

  so : (tests : ℕ) (tree : Tree) (front : List ℕ) → SpellsNode (suc tests) tree front
      → (IsAllowed 1 is_truth (mark_of tree) followed_by SpellsRest tests (mark_of tree) (rest_of tree)) front
  so tests (leaf value) front s = with-first (λ f t. record { spelled = t; allowed = refl }) s
  so tests (test txn aborted committed) front s = with-first (λ f t. record { spelled = t; allowed = refl }) s

  too-at : (tests n : ℕ) (rest : Rest n) (front : List ℕ) → (IsAllowed 1 is_truth n followed_by SpellsRest tests n rest) front → SpellsNode (suc tests) (tree_of n rest) front
  too-at tests zero value front s = with-first (λ f t. t.spelled) s
  too-at tests (suc zero) parts front s = with-first (λ f t. t.spelled) s
  too-at tests (suc (suc n)) parts front s = let less = ltb-true (suc (suc n)) 2 s.first.allowed in absurd (omega (arith, less))

  abbrev rest_layout : ℕ → ℕ → Layout → Layout
  rest_layout tests n next = if n == 0 then number_then 8 any (λ _. next) else txn_layout (node_layout tests (node_layout tests next))

  rest-code : (tests : ℕ) → IsCode SpellsPart PartFault (SpellsNode tests) (node_layout tests) → (n : ℕ) → IsTrue (is_truth n)
      → IsCode SpellsPart PartFault (SpellsRest tests n) (rest_layout tests n)
  rest-code tests code zero allowed = signed-code SpellsPart PartFault
  rest-code tests code (suc zero) allowed = both-code SpellsPart PartFault (txn-code SpellsPart PartFault) (both-code SpellsPart PartFault code code)
  rest-code tests code (suc (suc n)) allowed = let less = ltb-true (suc (suc n)) 2 allowed in absurd (omega (arith, less))

  pub node-code : (tests : ℕ) → IsCode SpellsPart PartFault (SpellsNode tests) (node_layout tests)
  node-code zero =
      code-where SpellsPart PartFault
      (numbered-code SpellsPart PartFault 1 (λ n. n == 0) {Y = λ _. ℤ} (λ n value. IsSigned value) (λ n next. number_then 8 any (λ _. next)) (λ n allowed. signed-code SpellsPart PartFault))
      (SpellsNode zero) (λ tree. (0, value_of tree)) (λ p. leaf p.1) leaf-back leaf-so leaf-too
  node-code (suc tests) =
      code-where SpellsPart PartFault
      (numbered-code SpellsPart PartFault 1 is_truth {Y = Rest} (SpellsRest tests) (rest_layout tests) (rest-code tests (node-code tests)))
      (SpellsNode (suc tests)) (λ tree. (mark_of tree, rest_of tree)) (λ p. tree_of p.0 p.1) (λ tree front s. back tree) (so tests) (λ p front s. too-at tests p.0 p.1 front s)

  -- A count and a tree.
  pub counted-code : (tests : ℕ) → IsCode SpellsPart PartFault (λ (p : ℕ × Tree). IsNumber 2 p.0 followed_by SpellsNode tests p.1)
      (λ next. number_then 2 any (λ _. node_layout tests next))
  counted-code tests = both-code SpellsPart PartFault (number-code SpellsPart PartFault 2) (node-code tests)
