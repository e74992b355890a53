-- The bytes of a tree are those of its leaves, each behind the tests that come between it and the leaf before it.
use Rattle.std.specs.Prelude.{not}
use Rattle.std.proofs.Common.{◌≡◌, ◌∙◌, ℕ, zero, suc, ◌+◌, ◌<◌, ◌≤◌, ℤ, Bool, true, false, if◌then◌else◌, List, [], ◌∷◌, ◌++◌, length, drop, get_or, refl, sym, ap, ap₂, subst, append_assoc, add-one, arith}
use Rattle.std.specs.List.{list_all}
use Rattle.std.proofs.lemmas.Grind.{flat_map-append}
use Rattle.std.proofs.lemmas.List.{append-nil, drop_all}
use Rattle.std.proofs.Math.Seq.{drop-cons}
use Rattle.pv_base.specs.BigEndian.{IsNumber, IsSigned}
use Rattle.pv_base.specs.Polyvalue.{Case, under}
use Rattle.pv_base.specs.declared.literal.Literal.{Literal}
use Rattle.pv_base.specs.declared.txn.TxnId.{TxnId}
use Rattle.pv_base.proofs.BigEndianLemmas.{big_endian-one}
use Rattle.pv_format.specs.PolyvalueSpelling.{SpellsNode}
use Rattle.pv_format.specs.Spelling.{◌followed_by◌}
use Rattle.pv_format.specs.Tree.{Tree, leaf, test, cases_of}
use Rattle.pv_fields.proofs.NumberLemmas.{txn_spelled}
use Rattle.pv_replay.specs.Nodes.{leaf_bytes, leaves_bytes, test_bytes, tests_bytes}

-- None of the literals asks for a commit.
abbrev aborts : List Literal → Bool
aborts literals = list_all (λ (one : Literal). not one.commits) literals

-- the bytes of a leaf, and of the tests before it
abbrev case_bytes : Case ℤ → List ℕ
case_bytes case = tests_bytes case.when ++ leaf_bytes case.value

-- Each leaf is behind some commit, so that a test above all of them begins before it.
abbrev AreBehind : List (Case ℤ) → Type 0
AreBehind [] = Unit {0}
AreBehind (case ∷ cases) = (aborts case.when ≡ false) × AreBehind cases

-- The first leaf is behind no commit, and each other one is.
record Leads (cases : List (Case ℤ)) : Type 0 where
  first : Case ℤ
  others : List (Case ℤ)
  is : cases ≡ first ∷ others
  leads : aborts first.when ≡ true
  behind : AreBehind others

behind_both : (xs ys : List (Case ℤ)) → AreBehind xs → AreBehind ys → AreBehind (xs ++ ys)
behind_both [] ys first second = second
behind_both (x ∷ xs) ys first second = (first.0, behind_both xs ys first.1 second)

behind_aborted : (txn : TxnId) (cases : List (Case ℤ)) → AreBehind cases → AreBehind (under txn false cases)
behind_aborted txn [] behind = tt
behind_aborted txn (case ∷ cases) behind = (behind.0, behind_aborted txn cases behind.1)

behind_committed : (txn : TxnId) (cases : List (Case ℤ)) → AreBehind (under txn true cases)
behind_committed txn [] = tt
behind_committed txn (case ∷ cases) = (refl, behind_committed txn cases)

-- Of the leaves of a tree only the first is behind no commit.
tree_leads : (tree : Tree) → Leads (cases_of tree)
tree_leads (leaf value) = record { first = record { when = []; value = value }; others = []; is = refl; leads = refl; behind = tt }
tree_leads (test txn aborted committed) =
    let front = tree_leads aborted in
    record {
      first = record { when = record { txn = txn; commits = false } ∷ front.first.when; value = front.first.value };
      others = under txn false front.others ++ under txn true (cases_of committed);
      is = ap (λ (cases : List (Case ℤ)). under txn false cases ++ under txn true (cases_of committed)) front.is;
      leads = front.leads;
      behind = behind_both (under txn false front.others) (under txn true (cases_of committed)) (behind_aborted txn front.others front.behind)
          (behind_committed txn (cases_of committed));
    }

-- A test on whose side of a commit leaves are begins before all of them.
leaves_committed : (txn : TxnId) (cases : List (Case ℤ)) → leaves_bytes (under txn true cases) ≡ leaves_bytes cases
leaves_committed txn [] = refl
leaves_committed txn (case ∷ cases) = ap (λ (rest : List ℕ). case_bytes case ++ rest) (leaves_committed txn cases)

tests_when : (txn : TxnId) (case : Case ℤ) (is : Bool) → aborts case.when ≡ is
    → case_bytes (record { when = record { txn = txn; commits = false } ∷ case.when; value = case.value }) ≡ ((if is then test_bytes txn else []) ++ tests_bytes case.when) ++ leaf_bytes case.value
tests_when txn case is same = ap (λ (b : Bool). ((if b then test_bytes txn else []) ++ tests_bytes case.when) ++ leaf_bytes case.value) same

leaves_behind : (txn : TxnId) (cases : List (Case ℤ)) → AreBehind cases → leaves_bytes (under txn false cases) ≡ leaves_bytes cases
leaves_behind txn [] behind = refl
leaves_behind txn (case ∷ cases) behind = ap₂ (λ (front back : List ℕ). front ++ back) (tests_when txn case false behind.0) (leaves_behind txn cases behind.1)

-- A test whose first leaf this is begins before it.
leaves_first : (txn : TxnId) (first : Case ℤ) (others : List (Case ℤ)) → aborts first.when ≡ true → AreBehind others
    → leaves_bytes (under txn false (first ∷ others)) ≡ test_bytes txn ++ leaves_bytes (first ∷ others)
leaves_first txn first others leads behind =
    ap₂ (λ (front back : List ℕ). front ++ back) (tests_when txn first true leads) (leaves_behind txn others behind)
    ∙ ap (λ (front : List ℕ). front ++ leaves_bytes others) (append_assoc (test_bytes txn) (tests_bytes first.when) (leaf_bytes first.value))
    ∙ append_assoc (test_bytes txn) (case_bytes first) (leaves_bytes others)

leaves_lead : (txn : TxnId) (cases : List (Case ℤ)) → Leads cases → leaves_bytes (under txn false cases) ≡ test_bytes txn ++ leaves_bytes cases
leaves_lead txn cases lead =
    subst (λ (those : List (Case ℤ)). leaves_bytes (under txn false those) ≡ test_bytes txn ++ leaves_bytes those) (sym lead.is)
    (leaves_first txn lead.first lead.others lead.leads lead.behind)

leaves_test : (txn : TxnId) (aborted committed : Tree)
    → leaves_bytes (cases_of (test txn aborted committed)) ≡ test_bytes txn ++ (leaves_bytes (cases_of aborted) ++ leaves_bytes (cases_of committed))
leaves_test txn aborted committed =
    flat_map-append case_bytes (under txn false (cases_of aborted)) (under txn true (cases_of committed))
    ∙ ap₂ (λ (front back : List ℕ). front ++ back) (leaves_lead txn (cases_of aborted) (tree_leads aborted)) (leaves_committed txn (cases_of committed))
    ∙ append_assoc (test_bytes txn) (leaves_bytes (cases_of aborted)) (leaves_bytes (cases_of committed))

one_leaf : (value : ℤ) (bytes : List ℕ) → (IsNumber 1 0 followed_by IsSigned value) bytes → leaves_bytes (cases_of (leaf value)) ≡ bytes
one_leaf value bytes spelled =
    append-nil (leaf_bytes value)
    ∙ sym (spelled.whole ∙ ap₂ (λ (front back : List ℕ). front ++ back) (spelled.first.spelled ∙ big_endian-one 0 (omega arith)) spelled.second.spelled)

-- A tree's bytes are those of its leaves.
pub node_leaves : (tests : ℕ) (tree : Tree) (bytes : List ℕ) → SpellsNode tests tree bytes → leaves_bytes (cases_of tree) ≡ bytes
node_leaves zero (leaf value) bytes spelled = one_leaf value bytes spelled
node_leaves (suc tests) (leaf value) bytes spelled = one_leaf value bytes spelled
node_leaves zero (test txn aborted committed) bytes spelled = absurd spelled
node_leaves (suc tests) (test txn aborted committed) bytes spelled =
    let join = λ (front back : List ℕ). front ++ back in
    let after = spelled.second in
    let sides = after.second in
    let both = ap₂ join (node_leaves tests aborted sides.front sides.first) (node_leaves tests committed sides.back sides.second) ∙ sym sides.whole in
    let front : test_bytes txn ≡ spelled.front ++ after.front = ap₂ join (sym (spelled.first.spelled ∙ big_endian-one 1 (omega arith))) (txn_spelled txn after.front after.first) in
    leaves_test txn aborted committed ∙ ap₂ join front both ∙ append_assoc spelled.front after.front after.back
    ∙ ap (λ (rest : List ℕ). spelled.front ++ rest) (sym after.whole) ∙ sym spelled.whole

-- One leaf more was written.
pub leaves_go_on : (cases : List (Case ℤ)) (i : ℕ) (case : Case ℤ) (start now new : List ℕ) → i < length cases → case ≡ get_or cases i case
    → now ++ leaves_bytes (drop i cases) ≡ start → new ≡ (now ++ tests_bytes case.when) ++ leaf_bytes case.value → new ++ leaves_bytes (drop (i + 1) cases) ≡ start
leaves_go_on cases i case start now new inside is before one =
    let here : drop i cases ≡ case ∷ drop (i + 1) cases = rw add-one (drop-cons cases i case inside ∙ ap (λ y. y ∷ drop (suc i) cases) (sym is)) in
    ap (λ (done : List ℕ). done ++ leaves_bytes (drop (i + 1) cases)) (one ∙ append_assoc now (tests_bytes case.when) (leaf_bytes case.value))
    ∙ append_assoc now (case_bytes case) (leaves_bytes (drop (i + 1) cases))
    ∙ ap (λ (left : List (Case ℤ)). now ++ leaves_bytes left) (sym here) ∙ before

-- All were written.
pub leaves_end : (cases : List (Case ℤ)) (i : ℕ) (start now : List ℕ) → length cases ≤ i → now ++ leaves_bytes (drop i cases) ≡ start → now ≡ start
leaves_end cases i start now outside before =
    sym (append-nil now) ∙ ap (λ (left : List (Case ℤ)). now ++ leaves_bytes left) (sym (drop_all i cases outside)) ∙ before
