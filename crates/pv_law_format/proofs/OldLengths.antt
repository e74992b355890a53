-- A record's spelling isn't longer than its old one, which is less than eight times as long.
use Rattle.std.proofs.Common.{◌≡◌, ⊎_elim, ℕ, ◌+◌, ◌*◌, ◌<◌, ◌≤◌, false, true, List, [], ◌∷◌, length, sym, subst, arith}
use Rattle.std.specs.Prelude.{ℤ, All}
use Rattle.std.specs.List.{sum_by}
use Rattle.std.proofs.lemmas.Bool.{cases_lt}
use Rattle.std.proofs.lemmas.List.Elements.{All-nil, All-cons, All-head, All-tail, All-append, All-map}
use Rattle.std.proofs.lemmas.List.Sums.{sum_by-cons, sum_by-le}
use Rattle.pv_base.specs.declared.limits.TheConstants.{HELD_NAMES}
use Rattle.pv_base.specs.declared.txn.TxnId.{TxnId}
use Rattle.pv_base.specs.Polyvalue.{Case, IsPolyvalue, under}
use Rattle.pv_model.specs.Alternatives.{Read}
use Rattle.pv_format.specs.Length.{old_case_length, old_polyvalue_length, polyvalue_length, record_length}
use Rattle.pv_format.specs.OldSpelling.{SpellsInCases}
use Rattle.pv_format.specs.Range.{IsPolyvalueInRange}
use Rattle.pv_format.specs.Record.{Record, epoch_begun, prepared, outcome_known}
use Rattle.pv_format.specs.RecordSpelling.{SpellsContentBy, SpellsRecord, SpellsOldRecord, IsReadAs}
use Rattle.pv_format.specs.Tree.{Tree, leaf, test, cases_of}
use Rattle.pv_law_format.proofs.CaseCount.{polyvalue-few}
use Rattle.pv_law_format.proofs.LengthLemmas.{parts-length, number-length, txn-length, cases-length, reads-by-length, record-length}
use Rattle.pv_law_format.proofs.RangeLemmas.{read-from, record-from, record-spelled}
use Rattle.pv_law_format.proofs.SureLemmas.{length-test, some-case, two-cases}
use Rattle.pv_law_format.proofs.TreeLemmas.{behind, polyvalue-tree}

-- Each case of a tree has fewer literals than the tree has leaves.
fewer-literals : (tree : Tree) → All (λ case. length case.when < length (cases_of tree)) (cases_of tree)
fewer-literals (leaf value) =
    All-cons (λ (case : Case ℤ). length case.when < 1) (record { when = []; value = value }) [] (omega arith) (All-nil (λ (case : Case ℤ). length case.when < 1))
fewer-literals (test txn aborted committed) =
    let left = fewer-literals aborted in
    let right = fewer-literals committed in
    let count = length-test txn aborted committed in
    let some = some-case aborted in
    let some_too = some-case committed in
    All-append (λ (case : Case ℤ). length case.when < length (cases_of (test txn aborted committed))) (under txn false (cases_of aborted)) (under txn true (cases_of committed))
    (All-map (λ (case : Case ℤ). length case.when < length (cases_of (test txn aborted committed))) (behind txn false) (cases_of aborted)
    (λ k d inside. let less = left k d inside in omega (arith, less, count, some_too)))
    (All-map (λ (case : Case ℤ). length case.when < length (cases_of (test txn aborted committed))) (behind txn true) (cases_of committed)
    (λ k d inside. let less = right k d inside in omega (arith, less, count, some)))

-- Each case of a test has a literal.
some-literal : (txn : TxnId) (aborted committed : Tree) → All (λ case. 1 ≤ length case.when) (cases_of (test txn aborted committed))
some-literal txn aborted committed =
    All-append (λ (case : Case ℤ). 1 ≤ length case.when) (under txn false (cases_of aborted)) (under txn true (cases_of committed))
    (All-map (λ (case : Case ℤ). 1 ≤ length case.when) (behind txn false) (cases_of aborted) (λ k d inside. omega arith))
    (All-map (λ (case : Case ℤ). 1 ≤ length case.when) (behind txn true) (cases_of committed) (λ k d inside. omega arith))

-- Cases with literals have 19 bytes each at least.
many-bytes : (cases : List (Case ℤ)) → All (λ case. 1 ≤ length case.when) cases → 19 * length cases ≤ sum_by old_case_length cases
many-bytes [] all = omega arith
many-bytes (case ∷ cases) all =
    let first = All-head (λ (c : Case ℤ). 1 ≤ length c.when) case cases all in
    let rest = many-bytes cases (All-tail (λ (c : Case ℤ). 1 ≤ length c.when) case cases all) in
    omega (arith, first, rest, sum_by-cons old_case_length case cases)

-- Cases with so many literals at most have so many bytes at most.
few-bytes : (most : ℕ) (cases : List (Case ℤ)) → All (λ case. length case.when ≤ most) cases → sum_by old_case_length cases ≤ length cases * (9 + 10 * most)
few-bytes most cases all = sum_by-le old_case_length (9 + 10 * most) cases (λ k d inside. let few = all k d inside in omega (arith, few))

-- A tree isn't longer than its cases, which are less than eight times as long.
record IsBetween (cases : List (Case ℤ)) : Type 0 where
  least : polyvalue_length cases ≤ old_polyvalue_length cases
  most : old_polyvalue_length cases < 8 * polyvalue_length cases

leaf-between : (value : ℤ) → IsBetween (cases_of (leaf value))
leaf-between value =
    let sum = sum_by-cons old_case_length (record { when = []; value = value }) [] in record { least = omega (arith, sum); most = omega (arith, sum) }

test-between : (txn : TxnId) (aborted committed : Tree) → All (λ case. length case.when ≤ HELD_NAMES) (cases_of (test txn aborted committed))
    → IsBetween (cases_of (test txn aborted committed))
test-between txn aborted committed few =
    let two = two-cases txn aborted committed in
    let many = many-bytes (cases_of (test txn aborted committed)) (some-literal txn aborted committed) in
    record {
      least = omega (arith, many, two);
      most = ⊎_elim
          (λ less.
          let pair : length (cases_of (test txn aborted committed)) ≡ 2 = omega (arith, less, two) in
          let bytes = few-bytes 1 (cases_of (test txn aborted committed))
          (λ k d inside. let fewer = fewer-literals (test txn aborted committed) k d inside in omega (arith, fewer, pair)) in
          omega (arith, bytes, pair))
          (λ more. let bytes = few-bytes HELD_NAMES (cases_of (test txn aborted committed)) few in omega (arith, bytes, more))
          (cases_lt (length (cases_of (test txn aborted committed))) 3);
    }

tree-between : (tree : Tree) → All (λ case. length case.when ≤ HELD_NAMES) (cases_of tree) → IsBetween (cases_of tree)
tree-between (leaf value) few = leaf-between value
tree-between (test txn aborted committed) few = test-between txn aborted committed few

between : (cases : List (Case ℤ)) → IsPolyvalue HELD_NAMES cases → IsBetween cases
between cases is =
    let found = polyvalue-tree HELD_NAMES cases is in
    let few = polyvalue-few HELD_NAMES cases is in
    subst IsBetween found.is
    (tree-between found.tree (subst (λ (cs : List (Case ℤ)). All (λ case. length case.when ≤ HELD_NAMES) cs) (sym found.is) few.literals))

abbrev new_bytes : Read → ℕ
new_bytes read = 4 + polyvalue_length read.cases

abbrev old_bytes : Read → ℕ
old_bytes read = 4 + old_polyvalue_length read.cases

record AreBetween (reads : List Read) : Type 0 where
  least : sum_by new_bytes reads ≤ sum_by old_bytes reads
  most : sum_by old_bytes reads ≤ 8 * sum_by new_bytes reads

reads-between : (reads : List Read) → All (λ read. IsPolyvalueInRange read.cases) reads → AreBetween reads
reads-between [] all = record { least = omega arith; most = omega arith }
reads-between (read ∷ reads) all =
    let first = All-head (λ (r : Read). IsPolyvalueInRange r.cases) read reads all in
    let here = between read.cases first.polyvalue in
    let rest = reads-between reads (All-tail (λ (r : Read). IsPolyvalueInRange r.cases) read reads all) in
    let new = sum_by-cons new_bytes read reads in
    let old = sum_by-cons old_bytes read reads in
    record { least = omega (arith, here.least, rest.least, new, old); most = omega (arith, here.most, rest.most, new, old) }

old-length : (txn : TxnId) (writes : List Read) (bytes : List ℕ) → SpellsContentBy SpellsInCases (prepared txn writes) bytes → length bytes ≡ 10 + sum_by old_bytes writes
old-length txn writes bytes s =
    omega (
      arith,
      parts-length s,
      txn-length txn s.front s.first,
      reads-by-length SpellsInCases old_polyvalue_length (λ cases bs t. cases-length cases bs t.spelled) 0 writes s.back s.second,
    )

between-prepared : (txn : TxnId) (writes : List Read) (bytes old : List ℕ) → SpellsRecord (prepared txn writes) bytes
    → SpellsContentBy SpellsInCases (prepared txn writes) old → (length bytes ≤ 1 + length old) × (1 + length old < 8 * length bytes)
between-prepared txn writes bytes old s t =
    let is = record-from (prepared txn writes) bytes s in
    let are = reads-between writes is.1.values in
    let new = record-length (prepared txn writes) bytes s in
    let other = old-length txn writes old t in
    (omega (arith, are.least, new, other), omega (arith, are.most, new, other))

pub old-longer : (entry : Record) (bytes old : List ℕ) → SpellsRecord entry bytes → SpellsOldRecord entry old
    → (length bytes ≤ length old) × (length old < 8 * length bytes)
old-longer entry bytes old s t =
    let content = t.spelled in
    let both = between-prepared t.txn t.writes bytes content.back (subst (λ (e : Record). SpellsRecord e bytes) t.is s)
    (subst (λ (e : Record). SpellsContentBy SpellsInCases e content.back) t.is content.second) in
    let whole = parts-length content in
    let kind = number-length content.front content.first in
    (omega (arith, both.0, whole, kind), omega (arith, both.1, whole, kind))

some-length : (entry : Record) → 1 ≤ record_length entry
some-length (epoch_begun epoch) = omega arith
some-length (prepared txn writes) = omega arith
some-length (outcome_known txn commits) = omega arith

-- What is read as a record is at least as long as its spelling, and less than eight times as long.
pub read-between : (entry : Record) (bytes : List ℕ) → IsReadAs entry bytes → (record_length entry ≤ length bytes) × (length bytes < 8 * record_length entry)
read-between entry bytes s =
    ⊎_elim
    (λ (written : SpellsRecord entry bytes).
    let is = record-length entry bytes written in
    let some = some-length entry in
    (omega (arith, is), omega (arith, is, some)))
    (λ (old : SpellsOldRecord entry bytes).
    let spelled = record-spelled entry (read-from entry bytes s) in
    let is = record-length entry spelled.0 spelled.1 in
    let both = old-longer entry spelled.0 bytes spelled.1 old in
    (omega (arith, is, both.0), omega (arith, is, both.1)))
    s
