-- Polyvalues that are sure have the same bytes as a tree and in cases.
use Rattle.std.proofs.Common.{◌≡◌, ℕ, ◌+◌, ◌≤◌, Bool, true, false, List, [], ◌∷◌, ◌++◌, length, refl, sym, ap, subst, ◌∙◌, arith}
use Rattle.std.specs.Prelude.{ℤ, IsTrue}
use Rattle.std.specs.List.{list_all}
use Rattle.std.proofs.lemmas.Bool.{and_from, and_parts, eqb-true}
use Rattle.std.proofs.lemmas.List.{append-nil, length-append, length-map}
use Rattle.pv_base.specs.BigEndian.{IsNumber}
use Rattle.pv_base.specs.declared.limits.TheConstants.{HELD_NAMES}
use Rattle.pv_base.specs.declared.txn.TxnId.{TxnId}
use Rattle.pv_base.specs.Polyvalue.{Case, under}
use Rattle.pv_model.specs.Alternatives.{Read}
use Rattle.pv_format.specs.OldSpelling.{SpellsCase, SpellsInCases}
use Rattle.pv_format.specs.PolyvalueSpelling.{SpellsNode, SpellsPolyvalue}
use Rattle.pv_format.specs.RecordSpelling.{SpellsReadsBy}
use Rattle.pv_format.specs.Spelling.{◌followed_by◌, SpellsEach, SpellsEntriesFrom}
use Rattle.pv_format.specs.Tree.{Tree, leaf, test, cases_of, is_sure}
use Rattle.pv_law_format.proofs.TreeLemmas.{first-case, polyvalue-tree}

-- How many cases a test has.
pub length-test : (txn : TxnId) (aborted committed : Tree)
    → length (cases_of (test txn aborted committed)) ≡ length (cases_of aborted) + length (cases_of committed)
length-test txn aborted committed =
    omega (
      arith,
      length-append (under txn false (cases_of aborted)) (under txn true (cases_of committed)),
      length-map {B = Case ℤ} (cases_of aborted) (λ (case : Case ℤ). record { when = record { txn = txn; commits = false } ∷ case.when; value = case.value }),
      length-map {B = Case ℤ} (cases_of committed) (λ (case : Case ℤ). record { when = record { txn = txn; commits = true } ∷ case.when; value = case.value }),
    )

-- A tree has a case at least.
pub some-case : (tree : Tree) → 1 ≤ length (cases_of tree)
some-case tree = let first = first-case tree in omega (arith, ap (λ (cs : List (Case ℤ)). length cs) first.2)

-- A test has two at least.
pub two-cases : (txn : TxnId) (aborted committed : Tree) → 2 ≤ length (cases_of (test txn aborted committed))
two-cases txn aborted committed = omega (arith, length-test txn aborted committed, some-case aborted, some-case committed)

leaf-cases : (value : ℤ) (bytes : List ℕ) → SpellsNode HELD_NAMES (leaf value) bytes → SpellsEach SpellsCase (cases_of (leaf value)) bytes
leaf-cases value bytes s = record {
  front = bytes;
  back = [];
  whole = sym (append-nil bytes);
  first = record {
    front = s.front;
    back = s.back;
    whole = s.whole;
    first = s.first;
    second = record { front = []; back = s.back; whole = refl; first = refl; second = s.second };
  };
  second = refl;
}

cases-leaf : (value : ℤ) (bytes : List ℕ) → SpellsEach SpellsCase (cases_of (leaf value)) bytes → SpellsNode HELD_NAMES (leaf value) bytes
cases-leaf value bytes s = record {
  front = s.first.front;
  back = s.first.second.back;
  whole = s.whole
      ∙ ap (λ (b : List ℕ). s.front ++ b) s.second
      ∙ append-nil s.front
      ∙ s.first.whole
      ∙ ap (λ (b : List ℕ). s.first.front ++ b) (s.first.second.whole ∙ ap (λ (f : List ℕ). f ++ s.first.second.back) s.first.second.first);
  first = s.first.first;
  second = s.first.second.second;
}

tree-cases : (tree : Tree) (count : ℕ) (bytes : List ℕ) → length (cases_of tree) ≡ 1 → (IsNumber 2 count followed_by SpellsNode HELD_NAMES tree) bytes
    → (IsNumber 2 count followed_by SpellsEach SpellsCase (cases_of tree)) bytes
tree-cases (leaf value) count bytes one s = record { front = s.front; back = s.back; whole = s.whole; first = s.first; second = leaf-cases value s.back s.second }
tree-cases (test txn aborted committed) count bytes one s = let two = two-cases txn aborted committed in absurd (omega (arith, one, two))

cases-tree : (tree : Tree) (count : ℕ) (bytes : List ℕ) → length (cases_of tree) ≡ 1 → (IsNumber 2 count followed_by SpellsEach SpellsCase (cases_of tree)) bytes
    → (IsNumber 2 count followed_by SpellsNode HELD_NAMES tree) bytes
cases-tree (leaf value) count bytes one s = record { front = s.front; back = s.back; whole = s.whole; first = s.first; second = cases-leaf value s.back s.second }
cases-tree (test txn aborted committed) count bytes one s = let two = two-cases txn aborted committed in absurd (omega (arith, one, two))

pub one-case : (cases : List (Case ℤ)) → IsTrue (is_sure cases) → length cases ≡ 1
one-case cases sure = eqb-true (length cases) 1 sure

pub sure-in-cases : (cases : List (Case ℤ)) (bytes : List ℕ) → IsTrue (is_sure cases) → SpellsPolyvalue cases bytes → SpellsInCases cases bytes
sure-in-cases cases bytes sure s = record {
  polyvalue = s.polyvalue;
  spelled = subst (λ (cs : List (Case ℤ)). (IsNumber 2 (length cases) followed_by SpellsEach SpellsCase cs) bytes) s.is
      (tree-cases s.tree (length cases) bytes (ap (λ (cs : List (Case ℤ)). length cs) s.is ∙ one-case cases sure) s.spelled);
}

pub sure-in-tree : (cases : List (Case ℤ)) (bytes : List ℕ) → IsTrue (is_sure cases) → SpellsInCases cases bytes → SpellsPolyvalue cases bytes
sure-in-tree cases bytes sure s =
    let found = polyvalue-tree HELD_NAMES cases s.polyvalue in
    record {
      tree = found.tree;
      is = found.is;
      polyvalue = s.polyvalue;
      spelled = cases-tree found.tree (length cases) bytes (ap (λ (cs : List (Case ℤ)). length cs) found.is ∙ one-case cases sure)
          (subst (λ (cs : List (Case ℤ)). (IsNumber 2 (length cases) followed_by SpellsEach SpellsCase cs) bytes) (sym found.is) s.spelled);
    }

-- Items with their polyvalues, all of which pass a test, in another form.
module _ (First Second : List (Case ℤ) → List ℕ → Type 0) (holds : List (Case ℤ) → Bool)
    (to : (cases : List (Case ℤ)) (bytes : List ℕ) → IsTrue (holds cases) → First cases bytes → Second cases bytes) where
  entries-other : (least : ℕ) (reads : List Read) (bytes : List ℕ) → IsTrue (list_all (λ read. holds read.cases) reads)
      → SpellsEntriesFrom (λ read. First read.cases) (λ read. read.item) least reads bytes → SpellsEntriesFrom (λ read. Second read.cases) (λ read. read.item) least reads bytes
  entries-other least [] bytes all s = s
  entries-other least (read ∷ reads) bytes all s =
      let parts = and_parts (holds read.cases) (list_all (λ read. holds read.cases) reads) all in
      record {
        front = s.front;
        back = s.back;
        whole = s.whole;
        first = s.first;
        second = record {
          front = s.second.front;
          back = s.second.back;
          whole = s.second.whole;
          first = to read.cases s.second.front parts.0 s.second.first;
          second = entries-other (read.item + 1) reads s.second.back parts.1 s.second.second;
        };
      }

  pub reads-other : (fewest : ℕ) (reads : List Read) (bytes : List ℕ) → IsTrue (list_all (λ read. holds read.cases) reads)
      → SpellsReadsBy First fewest reads bytes → SpellsReadsBy Second fewest reads bytes
  reads-other fewest reads bytes all s = record {
    front = s.front;
    back = s.back;
    whole = s.whole;
    first = s.first;
    second = entries-other 0 reads s.back all s.second;
  }

-- What is spelled in a form in which all pass a test passes it.
module _ (Spells : List (Case ℤ) → List ℕ → Type 0) (holds : List (Case ℤ) → Bool)
    (so : (cases : List (Case ℤ)) (bytes : List ℕ) → Spells cases bytes → IsTrue (holds cases)) where
  entries-hold : (least : ℕ) (reads : List Read) (bytes : List ℕ) → SpellsEntriesFrom (λ read. Spells read.cases) (λ read. read.item) least reads bytes
      → IsTrue (list_all (λ read. holds read.cases) reads)
  entries-hold least [] bytes s = refl
  entries-hold least (read ∷ reads) bytes s =
      and_from (holds read.cases) (list_all (λ read. holds read.cases) reads) (so read.cases s.second.front s.second.first)
      (entries-hold (read.item + 1) reads s.second.back s.second.second)

  pub reads-hold : (fewest : ℕ) (reads : List Read) (bytes : List ℕ) → SpellsReadsBy Spells fewest reads bytes → IsTrue (list_all (λ read. holds read.cases) reads)
  reads-hold fewest reads bytes s = entries-hold 0 reads s.back s.second
