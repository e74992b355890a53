-- A node that was read, or that wasn't.
use Rattle.std.proofs.Common.{◌≡◌, ◌⊎◌, ℕ, zero, suc, ◌<◌, ◌≤◌, ◌*◌, ℤ, Bool, true, false, ◌==◌, if◌then◌else◌, List, [], ◌∷◌, ◌++◌, length, map, All, Option, Some, inl, inr, FitsSigned, w64, refl, sym, ap, subst, ◌∙◌, arith}
use Rattle.std.specs.List.{sum}
use Rattle.std.proofs.lemmas.Bool.Decides.{nat_tests}
use Rattle.std.proofs.lemmas.List.{append-nil}
use Rattle.std.proofs.lemmas.List.Elements.{All-append, All-cons, All-head, All-nil, All-tail}
use Rattle.std.proofs.lemmas.List.Sums.{sum-map, sum_by-le}
use Rattle.pv_base.proofs.Basics.{heads}
use Rattle.pv_base.proofs.BigEndianLemmas.{big_endian-one}
use Rattle.pv_base.specs.BigEndian.{IsNumber, IsSigned, big_endian, twos_complement}
use Rattle.pv_base.specs.Polyvalue.{Case, under}
use Rattle.pv_base.specs.declared.literal.Literal.{Literal}
use Rattle.pv_base.specs.declared.txn.TxnId.{TxnId}
use Rattle.pv_bytes.specs.Reading.{Rest, HasTaken, IsShort}
use Rattle.pv_bytes.specs.declared.short.Short.{Short}
use Rattle.pv_format.specs.FirstFault.{Fault, short, bad_field}
use Rattle.pv_format.specs.Layout.{Layout, any, number_then, node_layout, txn_layout}
use Rattle.pv_format.specs.PolyvalueSpelling.{SpellsNode}
use Rattle.pv_format.specs.Spelling.{◌followed_by◌, SpellsTxn, is_truth}
use Rattle.pv_format.specs.Tree.{Tree, leaf, test, cases_of}
use Rattle.pv_fields.specs.Decoding.{Passes, PassesNumber, Stops}
use Rattle.pv_fields.proofs.PartLemmas.{number_allowed, passes_after_number, passes_both, stops_after_number, stops_any, stops_at_number, stops_first, stops_number, stops_second, stops_short}
use Rattle.pv_fields.proofs.PolyvalueLemmas.{passes_signed}
use Rattle.pv_cases.proofs.CasesAtLemmas.{pushed-tested}
use Rattle.pv_replay.specs.Nodes.{IsNodeRead}

-- The kinds that a node may have where so many tests may still come.
abbrev is_node_kind : ℕ → ℕ → Bool
is_node_kind zero kind = kind == 0
is_node_kind (suc tests) kind = is_truth kind

-- what comes after the kind
abbrev after_kind : ℕ → ℕ → Layout → Layout
after_kind zero kind next = number_then 8 any (λ _. next)
after_kind (suc tests) kind next = if kind == 0 then number_then 8 any (λ _. next) else txn_layout (node_layout tests (node_layout tests next))

-- The kind wasn't read.
pub kind_short : (tests : ℕ) (old new : Rest) (e : Short) → IsShort 1 old new e → Stops (node_layout tests) old (Some (short e.0))
kind_short zero old new e is = stops_at_number 1 (is_node_kind zero) (after_kind zero) old (Some (short e.0)) (stops_short 1 (is_node_kind zero) old new e is)
kind_short (suc tests) old new e is =
    stops_at_number 1 (is_node_kind (suc tests)) (after_kind (suc tests)) old (Some (short e.0)) (stops_short 1 (is_node_kind (suc tests)) old new e is)

-- It is no kind, or is that of a test where none may come.
pub kind_bad : (tests kind : ℕ) (old new : Rest) → HasTaken (big_endian 1 kind) old new → kind < 256 → (kind ≡ 0 → ⊥) → ((kind ≡ 1 → ⊥) ⊎ (tests ≡ 0))
    → Stops (node_layout tests) old (Some (bad_field old.place))
kind_bad zero kind old new taken fits no_leaf wrong = λ next.
    stops_number 1 kind old new taken (omega arith) (is_node_kind zero) (grind (arith, nat_tests)) (λ number. after_kind zero number next)
kind_bad (suc tests) kind old new taken fits no_leaf (inl no_test) = λ next.
    stops_number 1 kind old new taken (omega arith) (is_node_kind (suc tests)) (grind (arith, nat_tests)) (λ number. after_kind (suc tests) number next)
kind_bad (suc tests) kind old new taken fits no_leaf (inr none) = absurd (omega (arith, none))

-- The kind that was taken is that of a leaf, where it is the first byte.
pub leaf_kind : (kind : ℕ) (rest : List ℕ) (old new : Rest) → kind < 256 → old.left ≡ 0 ∷ rest → HasTaken (big_endian 1 kind) old new → HasTaken (big_endian 1 0) old new
leaf_kind kind rest old new fits first taken =
    let same : kind ∷ new.left ≡ 0 ∷ rest = sym (taken.bytes ∙ ap (λ (front : List ℕ). front ++ new.left) (big_endian-one kind fits)) ∙ first in
    subst (λ (number : ℕ). HasTaken (big_endian 1 number) old new) (heads same) taken

-- A leaf was read, or its value wasn't.

pub leaf_passes : (tests : ℕ) (value : ℤ) (old mid new : Rest) → HasTaken (big_endian 1 0) old mid → HasTaken (big_endian 8 (twos_complement value)) mid new → FitsSigned w64 value
    → Passes (SpellsNode tests (leaf value)) (node_layout tests) old new
leaf_passes zero value old mid new kind number fits =
    passes_after_number (IsNumber 1 0) 1 (is_node_kind zero) 0 (after_kind zero) old mid (number_allowed 1 0 (is_node_kind zero) old mid kind (omega arith) refl)
    (IsSigned value) new (passes_signed value mid new number fits)
leaf_passes (suc tests) value old mid new kind number fits =
    passes_after_number (IsNumber 1 0) 1 (is_node_kind (suc tests)) 0 (after_kind (suc tests)) old mid (number_allowed 1 0 (is_node_kind (suc tests)) old mid kind (omega arith) refl)
    (IsSigned value) new (passes_signed value mid new number fits)

pub leaf_short : (tests : ℕ) (old mid new : Rest) → HasTaken (big_endian 1 0) old mid → (e : Short) → IsShort 8 mid new e → Stops (node_layout tests) old (Some (short e.0))
leaf_short zero old mid new kind e is =
    stops_after_number (IsNumber 1 0) 1 (is_node_kind zero) 0 (after_kind zero) old mid (number_allowed 1 0 (is_node_kind zero) old mid kind (omega arith) refl)
    (Some (short e.0)) (stops_any 8 mid new e is)
leaf_short (suc tests) old mid new kind e is =
    stops_after_number (IsNumber 1 0) 1 (is_node_kind (suc tests)) 0 (after_kind (suc tests)) old mid (number_allowed 1 0 (is_node_kind (suc tests)) old mid kind (omega arith) refl)
    (Some (short e.0)) (stops_any 8 mid new e is)

pub leaf_read : (tests : ℕ) (value : ℤ) (old mid new : Rest) → HasTaken (big_endian 1 0) old mid → HasTaken (big_endian 8 (twos_complement value)) mid new → FitsSigned w64 value
    → (way : List Literal) (before after : List (Case ℤ)) → after ≡ before ++ record { when = way; value = value } ∷ [] → IsNodeRead tests way before after old new
leaf_read tests value old mid new kind number fits way before after is = record {
  tree = leaf value;
  passes = leaf_passes tests value old mid new kind number fits;
  cases = is ∙ ap (λ (when : List Literal). before ++ record { when = when; value = value } ∷ []) (sym (append-nil way));
}

-- A test was read, or a part of it wasn't.
module _ (tests : ℕ) (old mid : Rest) (kind : HasTaken (big_endian 1 1) old mid) where
  test_kind : PassesNumber (IsNumber 1 1) 1 (is_node_kind (suc tests)) 1 old mid
  test_kind = number_allowed 1 1 (is_node_kind (suc tests)) old mid kind (omega arith) refl

  pub txn_stops : (told : Option Fault) → Stops txn_layout mid told → Stops (node_layout (suc tests)) old told
  txn_stops told stops =
      stops_after_number (IsNumber 1 1) 1 (is_node_kind (suc tests)) 1 (after_kind (suc tests)) old mid test_kind told
      (stops_first txn_layout (λ next. node_layout tests (node_layout tests next)) mid told stops)

  module _ (txn : TxnId) (second : Rest) (named : Passes (SpellsTxn txn) txn_layout mid second) where
    pub aborted_stops : (told : Option Fault) → Stops (node_layout tests) second told → Stops (node_layout (suc tests)) old told
    aborted_stops told stops =
        stops_after_number (IsNumber 1 1) 1 (is_node_kind (suc tests)) 1 (after_kind (suc tests)) old mid test_kind told
        (stops_second (SpellsTxn txn) txn_layout (λ next. node_layout tests (node_layout tests next)) mid second told named
        (stops_first (node_layout tests) (node_layout tests) second told stops))

    module _ (way : List Literal) (before between : List (Case ℤ)) (third : Rest)
        (aborted : IsNodeRead tests (way ++ record { txn = txn; commits = false } ∷ []) before between second third) where
      pub committed_stops : (told : Option Fault) → Stops (node_layout tests) third told → Stops (node_layout (suc tests)) old told
      committed_stops told stops =
          stops_after_number (IsNumber 1 1) 1 (is_node_kind (suc tests)) 1 (after_kind (suc tests)) old mid test_kind told
          (stops_second (SpellsTxn txn) txn_layout (λ next. node_layout tests (node_layout tests next)) mid second told named
          (stops_second (SpellsNode tests aborted.tree) (node_layout tests) (node_layout tests) second third told aborted.passes stops))

      pub test_read : (after : List (Case ℤ)) (new : Rest) → IsNodeRead tests (way ++ record { txn = txn; commits = true } ∷ []) between after third new
          → IsNodeRead (suc tests) way before after old new
      test_read after new committed = record {
        tree = test txn aborted.tree committed.tree;
        passes = passes_after_number (IsNumber 1 1) 1 (is_node_kind (suc tests)) 1 (after_kind (suc tests)) old mid test_kind
            (SpellsTxn txn followed_by SpellsNode tests aborted.tree followed_by SpellsNode tests committed.tree) new
            (passes_both (SpellsTxn txn) (SpellsNode tests aborted.tree followed_by SpellsNode tests committed.tree) txn_layout (λ next. node_layout tests (node_layout tests next)) mid second new named
            (passes_both (SpellsNode tests aborted.tree) (SpellsNode tests committed.tree) (node_layout tests) (node_layout tests) second third new aborted.passes committed.passes));
        cases = pushed-tested way (way ++ record { txn = txn; commits = false } ∷ []) (way ++ record { txn = txn; commits = true } ∷ []) txn (cases_of aborted.tree) (cases_of committed.tree)
            before between after refl refl aborted.cases committed.cases;
      }

-- Below a test they have one literal more.
below_test : (txn : TxnId) (outcome : Bool) (most : ℕ) (cases : List (Case ℤ)) → All (λ (case : Case ℤ). length case.when ≤ most) cases
    → All (λ (case : Case ℤ). length case.when ≤ suc most) (under txn outcome cases)
below_test txn outcome most [] few = All-nil (λ (case : Case ℤ). length case.when ≤ suc most)
below_test txn outcome most (case ∷ cases) few =
    let less = All-head (λ (case : Case ℤ). length case.when ≤ most) case cases few in
    All-cons (λ (case : Case ℤ). length case.when ≤ suc most) (record { when = record { txn = txn; commits = outcome } ∷ case.when; value = case.value }) (under txn outcome cases)
    (omega (arith, less)) (below_test txn outcome most cases (All-tail (λ (case : Case ℤ). length case.when ≤ most) case cases few))

-- The cases of a tree have no more literals each than tests may come on a way down.
pub few_tests : (tests : ℕ) (tree : Tree) (bytes : List ℕ) → SpellsNode tests tree bytes → All (λ (case : Case ℤ). length case.when ≤ tests) (cases_of tree)
few_tests tests (leaf value) bytes spelled =
    All-cons (λ (case : Case ℤ). length case.when ≤ tests) (record { when = []; value = value }) [] (omega arith) (All-nil (λ (case : Case ℤ). length case.when ≤ tests))
few_tests zero (test txn aborted committed) bytes spelled = absurd spelled
few_tests (suc tests) (test txn aborted committed) bytes spelled =
    let sides = spelled.second.second in
    All-append (λ (case : Case ℤ). length case.when ≤ suc tests) (under txn false (cases_of aborted)) (under txn true (cases_of committed))
    (below_test txn false tests (cases_of aborted) (few_tests tests aborted sides.front sides.first))
    (below_test txn true tests (cases_of committed) (few_tests tests committed sides.back sides.second))

-- So they have few in all.
pub counted_tests : (tests : ℕ) (tree : Tree) (bytes : List ℕ) → SpellsNode tests tree bytes
    → sum (map (λ (case : Case ℤ). length case.when) (cases_of tree)) ≤ length (cases_of tree) * tests
counted_tests tests tree bytes spelled =
    subst (λ total. total ≤ length (cases_of tree) * tests) (sym (sum-map (λ (case : Case ℤ). length case.when) (cases_of tree)))
    (sum_by-le (λ (case : Case ℤ). length case.when) tests (cases_of tree) (few_tests tests tree bytes spelled))
