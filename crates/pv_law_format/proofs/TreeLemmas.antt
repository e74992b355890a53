-- Trees and the cases that they are: each list of cases is at most one tree, and canonical ones of few names are one with few tests on each way down.
use Rattle.std.proofs.Common.{◌≡◌, ℕ, zero, suc, ◌≤◌, Bool, true, false, List, [], ◌∷◌, ◌++◌, length, refl, sym, ap, ap₂, ◌∙◌, arith}
use Rattle.std.specs.Prelude.{ℤ, IsTrue, ⊤}
use Rattle.std.specs.List.{Contains, filter}
use Rattle.std.proofs.lemmas.Bool.{true≢false}
use Rattle.pv_base.specs.Assignment.{precedes}
use Rattle.pv_base.specs.declared.literal.Literal.{Literal}
use Rattle.pv_base.specs.declared.txn.TxnId.{TxnId}
use Rattle.pv_base.specs.Polyvalue.{Case, IsCanonical, sure, tested, IsPolyvalue, names, under}
use Rattle.pv_base.proofs.Basics.{heads, tails}
use Rattle.pv_base.proofs.ContainsLemmas.{Contains-filter}
use Rattle.pv_format.specs.Tree.{Tree, leaf, test, cases_of}
use Rattle.pv_law_format.proofs.CaseCount.{filtered-less, not-before}
use Rattle.pv_law_polyvalues.proofs.NameLemmas.{some-names}
use Rattle.pv_law_polyvalues.proofs.PolyvalueLemmas.{names-self, names-front, names-back}

-- A tree has a first case.
pub first-case : (tree : Tree) → (first : Case ℤ) × (rest : List (Case ℤ)) × (cases_of tree ≡ first ∷ rest)
first-case (leaf value) = (record { when = []; value = value }, [], refl)
first-case (test txn aborted committed) =
    let front = first-case aborted in (
      record { when = record { txn = txn; commits = false } ∷ front.0.when; value = front.0.value },
      under txn false front.1 ++ under txn true (cases_of committed),
      ap (λ cs. under txn false cs ++ under txn true (cases_of committed)) front.2,
    )

-- a case under one more literal
abbrev pub behind : TxnId → Bool → Case ℤ → Case ℤ
behind txn outcome case = record { when = record { txn = txn; commits = outcome } ∷ case.when; value = case.value }

abbrev later_of : List Literal → List Literal
later_of [] = []
later_of (literal ∷ literals) = literals

-- a case without its first literal
abbrev rest_of : Case ℤ → Case ℤ
rest_of case = record { when = later_of case.when; value = case.value }

-- what the first literal asks for, or something else where there is none
abbrev first_asks : Bool → List Literal → Bool
first_asks other [] = other
first_asks other (literal ∷ literals) = literal.commits

abbrev first_txn : TxnId → List Literal → TxnId
first_txn other [] = other
first_txn other (literal ∷ literals) = literal.txn

one-behind : (txn : TxnId) (outcome : Bool) (case other : Case ℤ) → behind txn outcome case ≡ behind txn outcome other → case ≡ other
one-behind txn outcome case other same = ap rest_of same

apart : (txn : TxnId) (case other : Case ℤ) → behind txn false case ≡ behind txn true other → ⊥
apart txn case other same = true≢false (sym (ap (λ (c : Case ℤ). first_asks true c.when) same))

no-cases : (case : Case ℤ) (cases : List (Case ℤ)) → [] ≡ case ∷ cases → ⊥
no-cases case cases same = let lengths = ap (λ (cs : List (Case ℤ)). length cs) same in omega (arith, lengths)

one-under : (txn : TxnId) (outcome : Bool) (cases others : List (Case ℤ)) → under txn outcome cases ≡ under txn outcome others → cases ≡ others
one-under txn outcome [] [] same = refl
one-under txn outcome [] (other ∷ others) same = absurd (no-cases (behind txn outcome other) (under txn outcome others) same)
one-under txn outcome (case ∷ cases) [] same = absurd (no-cases (behind txn outcome case) (under txn outcome cases) (sym same))
one-under txn outcome (case ∷ cases) (other ∷ others) same =
    ap₂ (λ (c : Case ℤ) (cs : List (Case ℤ)). c ∷ cs) (one-behind txn outcome case other (heads same)) (one-under txn outcome cases others (tails same))

-- Cases under both outcomes of a transaction are those of one pair of sides.
one-pair : (txn : TxnId) (aborted committed front back : List (Case ℤ))
    → under txn false aborted ++ under txn true committed ≡ under txn false front ++ under txn true back → (aborted ≡ front) × (committed ≡ back)
one-pair txn [] committed [] back same = (refl, one-under txn true committed back same)
one-pair txn [] [] (first ∷ front) back same = absurd (no-cases (behind txn false first) (under txn false front ++ under txn true back) same)
one-pair txn [] (case ∷ committed) (first ∷ front) back same = absurd (apart txn first case (sym (heads same)))
one-pair txn (case ∷ aborted) committed [] [] same = absurd (no-cases (behind txn false case) (under txn false aborted ++ under txn true committed) (sym same))
one-pair txn (case ∷ aborted) committed [] (first ∷ back) same = absurd (apart txn case first (heads same))
one-pair txn (case ∷ aborted) committed (first ∷ front) back same =
    let later = one-pair txn aborted committed front back (tails same) in
    (ap₂ (λ (c : Case ℤ) (cs : List (Case ℤ)). c ∷ cs) (one-behind txn false case first (heads same)) later.0, later.1)

-- The first case of a test asks for its transaction to abort.
first-of-sides : (txn : TxnId) (aborted committed : Tree)
    → (case : Case ℤ) × (rest : List (Case ℤ)) × (cases_of (test txn aborted committed) ≡ behind txn false case ∷ rest)
first-of-sides txn aborted committed =
    let front = first-case aborted in
    (front.0, under txn false front.1 ++ under txn true (cases_of committed), ap (λ cs. under txn false cs ++ under txn true (cases_of committed)) front.2)

first-of-test : (txn : TxnId) (aborted committed : Tree) (other : TxnId) (case : Case ℤ) (cases : List (Case ℤ)) → cases_of (test txn aborted committed) ≡ case ∷ cases
    → first_txn other case.when ≡ txn
first-of-test txn aborted committed other case cases is =
    let first = first-of-sides txn aborted committed in
    sym (ap (λ (c : Case ℤ). first_txn other c.when) (heads (sym first.2 ∙ is)))

-- A leaf has no literal, and the first case of a test has one.
leaf-no-test : (value : ℤ) (txn : TxnId) (aborted committed : Tree) → cases_of (leaf value) ≡ cases_of (test txn aborted committed) → ⊥
leaf-no-test value txn aborted committed same =
    let first = first-of-sides txn aborted committed in
    let lengths = ap (λ (c : Case ℤ). length c.when) (heads (same ∙ first.2)) in omega (arith, lengths)

pub one-tree : (tree other : Tree) → cases_of tree ≡ cases_of other → tree ≡ other
one-tree (leaf value) (leaf other) same = ap (λ (c : Case ℤ). leaf c.value) (heads same)
one-tree (leaf value) (test txn aborted committed) same = absurd (leaf-no-test value txn aborted committed same)
one-tree (test txn aborted committed) (leaf value) same = absurd (leaf-no-test value txn aborted committed (sym same))
one-tree (test txn aborted committed) (test other front back) same =
    let first = first-case (test other front back) in
    let txns : other ≡ txn =
    sym (first-of-test other front back txn first.0 first.1 first.2) ∙ first-of-test txn aborted committed txn first.0 first.1 (same ∙ first.2) in
    let sides = one-pair txn (cases_of aborted) (cases_of committed) (cases_of front) (cases_of back)
    (same ∙ ap (λ (t : TxnId). under t false (cases_of front) ++ under t true (cases_of back)) txns) in
    let left = one-tree aborted front sides.0 in
    let right = one-tree committed back sides.1 in
    (λ i. test (sym txns i) (left i) (right i))

-- On no way down are there more tests than this number.
abbrev pub HasFewTests : ℕ → Tree → Type 0
HasFewTests tests (leaf value) = ⊤
HasFewTests zero (test txn aborted committed) = ⊥
HasFewTests (suc tests) (test txn aborted committed) = HasFewTests tests aborted × HasFewTests tests committed

-- The cases are those of a tree with so many tests at most on each way down.
pub record IsOfTree (tests : ℕ) (cases : List (Case ℤ)) : Type 0 where
  pub tree : Tree
  pub is : cases_of tree ≡ cases
  pub few : HasFewTests tests tree

tree-within : (cases : List (Case ℤ)) → IsCanonical cases → (txns : List TxnId) (most : ℕ) → length txns ≤ most
    → ((txn : TxnId) → IsTrue (names cases txn) → Contains txns txn) → IsOfTree most cases
tree-within cases (sure value) txns most few whole = record { tree = leaf value; is = refl; few = tt }
tree-within cases (tested txn front back left right after_front after_back differ) txns zero few whole =
    let less = filtered-less (precedes txn) txns txn (whole txn (names-self txn front back left)) (not-before txn) in absurd (omega (arith, less, few))
tree-within cases (tested txn front back left right after_front after_back differ) txns (suc most) few whole =
    let less = filtered-less (precedes txn) txns txn (whole txn (names-self txn front back left)) (not-before txn) in
    let aborted = tree-within front left (filter (precedes txn) txns) most (omega (arith, less, few))
    (λ named is. Contains-filter (precedes txn) txns named (after_front named is) (whole named (names-front txn front back named is))) in
    let committed = tree-within back right (filter (precedes txn) txns) most (omega (arith, less, few))
    (λ named is. Contains-filter (precedes txn) txns named (after_back named is) (whole named (names-back txn front back named is))) in
    record {
      tree = test txn aborted.tree committed.tree;
      is = λ i. under txn false (aborted.is i) ++ under txn true (committed.is i);
      few = (aborted.few, committed.few);
    }

-- A polyvalue is a tree.
pub polyvalue-tree : (limit : ℕ) (cases : List (Case ℤ)) → IsPolyvalue limit cases → IsOfTree limit cases
polyvalue-tree limit cases is = let listed = some-names cases in tree-within cases is.canonical listed.0 limit (is.few listed.0 listed.1) listed.1.whole
