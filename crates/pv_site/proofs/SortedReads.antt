-- Reads of different items, as they came and sorted by item.
use Rattle.std.proofs.Common.{arith, ◌≡◌, ⊎_elim, ℕ, suc, ◌+◌, ◌<◌, ◌≤◌, Bool, true, false, List, [], ◌∷◌, length, refl, sym, ap, subst, ◌∙◌}
use Rattle.std.specs.Prelude.{◌==◌, ◌||◌, if◌then◌else◌}
use Rattle.std.specs.List.{AllPairs, Contains, sum_by, list_any}
use Rattle.std.specs.List.Sorted.{IsPermutation, IsNonDecreasingBy}
use Rattle.std.proofs.lemmas.Bool.{eq-eqb, false≢true}
use Rattle.std.proofs.lemmas.Bool.Decides.{nat_tests}
use Rattle.std.proofs.lemmas.List.Folds.{list_any-append}
use Rattle.std.proofs.lemmas.List.Sums.{sum_by-cons}
use Rattle.std.proofs.lemmas.List.Sorted.{sum_by-IsPermutation, list_any-IsPermutation}
use Rattle.pv_base.proofs.ContainsLemmas.{Contains-first, Contains-behind, Contains-nil, Contains-cases}
use Rattle.pv_base.proofs.OrderLemmas.{pairs-first, pairs-tail, pairs-cons, pairs-nil, pairs-map}
use Rattle.pv_base.specs.declared.txn.TxnId.{TxnId}
use Rattle.pv_base.specs.Named.{names_of}
use Rattle.pv_base.specs.Polyvalue.{AreNames, NamesAtMost, names}
use Rattle.pv_law_polyvalues.proofs.NameLemmas.{one-names}
use Rattle.pv_law_step.proofs.NameLists.{names-are}
use Rattle.pv_model.specs.Alternatives.{Read, all_cases, rows_at}
use Rattle.pv_model.specs.Meaning.{Row}
use Rattle.pv_site.proofs.RowLemmas.{AreApart}
use Rattle.pv_site.specs.LockPoint.{ReadApart}

-- The reads ascend by item.
abbrev pub ReadAscending : List Read → Type 0
ReadAscending reads = AllPairs (λ (read later : Read). read.item < later.item) reads

-- how many of the reads are of the item
abbrev times : ℕ → List Read → ℕ
times n reads = sum_by (λ (read : Read). if read.item == n then 1 else 0) reads

times-cons : (n : ℕ) (first : Read) (rest : List Read) → times n (first ∷ rest) ≡ (if first.item == n then 1 else 0) + times n rest
times-cons n first rest = sum_by-cons (λ (read : Read). if read.item == n then 1 else 0) first rest

there : (reads : List Read) (read : Read) (n : ℕ) → Contains reads read → (read.item == n) ≡ true → 1 ≤ times n reads
there [] read n h is = absurd (Contains-nil read h)
there (first ∷ rest) read n h is =
    subst (λ (m : ℕ). 1 ≤ m) (sym (times-cons n first rest))
    (⊎_elim (λ same. by (first.item == n) (ap (λ (r : Read). r.item == n) same ∙ is)) (λ behind. more (first.item == n) (there rest read n behind is))
    (Contains-cases first rest read h))
  where
    by : (b : Bool) → b ≡ true → 1 ≤ (if b then 1 else 0) + times n rest
    by true at = omega arith
    by false at = absurd (false≢true at)

    more : (b : Bool) → 1 ≤ times n rest → 1 ≤ (if b then 1 else 0) + times n rest
    more true some = omega (arith, some)
    more false some = omega (arith, some)

none : (reads : List Read) (n : ℕ) → ((read : Read) → Contains reads read → (read.item == n) ≡ false) → times n reads ≡ 0
none [] n lacking = refl
none (first ∷ rest) n lacking =
    times-cons n first rest
    ∙ by (first.item == n) (lacking first (Contains-first first rest)) (none rest n (λ read h. lacking read (Contains-behind first rest read h)))
  where
    by : (b : Bool) → b ≡ false → times n rest ≡ 0 → (if b then 1 else 0) + times n rest ≡ 0
    by true at gone = absurd (false≢true (sym at))
    by false at gone = omega (arith, gone)

other_item : (one other n : ℕ) → (one == other) ≡ false → (one == n) ≡ true → (other == n) ≡ false
other_item one other n apart at = grind (arith, nat_tests, apart, at)

-- Reads of different items have no item twice.
once : (reads : List Read) → ReadApart reads → (n : ℕ) → times n reads ≤ 1
once [] apart n = omega arith
once (first ∷ rest) apart n =
    subst (λ (m : ℕ). m ≤ 1) (sym (times-cons n first rest))
    (by (first.item == n) refl (once rest (pairs-tail (λ (r later : Read). (r.item == later.item) ≡ false) first rest apart) n)) where
      by : (b : Bool) → (first.item == n) ≡ b → times n rest ≤ 1 → (if b then 1 else 0) + times n rest ≤ 1
      by true at few =
          omega (
            arith,
            none rest n
                (λ read h. other_item first.item read.item n (pairs-first (λ (r later : Read). (r.item == later.item) ≡ false) first rest apart read h) at),
          )
      by false at few = omega (arith, few)

-- Sorted they ascend.
strict : (reads : List Read) → IsNonDecreasingBy (λ (read : Read). read.item) reads → ((n : ℕ) → times n reads ≤ 1) → ReadAscending reads
strict [] up few = pairs-nil (λ (read later : Read). read.item < later.item)
strict (first ∷ rest) up few =
    pairs-cons (λ (read later : Read). read.item < later.item) first rest (λ read h. below read h)
    (strict rest (λ i j d le within. up (suc i) (suc j) d (omega (arith, le)) (omega (arith, within))) (λ n. omega (arith, times-cons n first rest, few n)))
  where
    at-most : (read : Read) → Contains rest read → first.item ≤ read.item
    at-most read (k, within, at) =
        subst (λ (r : Read). first.item ≤ r.item) at (up 0 (suc k) read (omega arith) (omega (arith, within)))

    twice : (read : Read) → Contains rest read → (read.item == first.item) ≡ true → ⊥
    twice read h same =
        let more = there rest read first.item h same in
        let all : (if first.item == first.item then 1 else 0) + times first.item rest ≤ 1 = subst (λ (m : ℕ). m ≤ 1) (times-cons first.item first rest) (few first.item) in
        let both : 1 + times first.item rest ≤ 1 = subst (λ (b : Bool). (if b then 1 else 0) + times first.item rest ≤ 1) (eq-eqb first.item first.item refl) all in
        omega (arith, more, both)

    below : (read : Read) → Contains rest read → first.item < read.item
    below read h = by (read.item == first.item) refl where
      by : (b : Bool) → (read.item == first.item) ≡ b → first.item < read.item
      by true is = absurd (twice read h is)
      by false is = grind (arith, nat_tests, is, at-most read h)

pub sorted-ascend : (reads sorted : List Read) → ReadApart reads → IsPermutation reads sorted → IsNonDecreasingBy (λ (read : Read). read.item) sorted → ReadAscending sorted
sorted-ascend reads sorted apart permuted up =
    strict sorted up
    (λ n. subst (λ (m : ℕ). m ≤ 1) (sym (sum_by-IsPermutation (λ (read : Read). if read.item == n then 1 else 0) reads sorted permuted)) (once reads apart n))

pub rows-apart : (reads : List Read) (assignment : List TxnId) → ReadApart reads → AreApart (rows_at reads assignment)
rows-apart reads assignment apart = pairs-map (λ (row later : Row). (row.item == later.item) ≡ false) _ reads apart

lt-apart : (n m : ℕ) → n < m → (n == m) ≡ false
lt-apart n m less = grind (arith, nat_tests, less)

pub ascending-apart : (reads : List Read) → ReadAscending reads → ReadApart reads
ascending-apart reads up = λ i j d before within. lt-apart _ _ (up i j d before within)

-- Names.

names-all : (reads : List Read) (txn : TxnId) → names (all_cases reads) txn ≡ list_any (λ (read : Read). names read.cases txn) reads
names-all [] txn = refl
names-all (read ∷ reads) txn = list_any-append _ read.cases (all_cases reads) ∙ ap (λ (b : Bool). names read.cases txn || b) (names-all reads txn)

names-permuted : (reads sorted : List Read) → IsPermutation reads sorted → (txn : TxnId) → names (all_cases reads) txn ≡ names (all_cases sorted) txn
names-permuted reads sorted permuted txn =
    names-all reads txn ∙ list_any-IsPermutation (λ (read : Read). names read.cases txn) reads sorted permuted ∙ sym (names-all sorted txn)

-- In another order they name the same.
pub names-alike : (reads sorted : List Read) (txns : List TxnId) → IsPermutation reads sorted → AreNames (all_cases sorted) txns → txns ≡ names_of (all_cases reads)
names-alike reads sorted txns permuted are =
    one-names (all_cases sorted) (all_cases reads) txns (names_of (all_cases reads)) (λ txn. sym (names-permuted reads sorted permuted txn)) are
    (names-are (all_cases reads))

pub few-alike : (limit : ℕ) (reads sorted : List Read) → IsPermutation reads sorted → NamesAtMost limit (all_cases sorted) → length (names_of (all_cases reads)) ≤ limit
few-alike limit reads sorted permuted few =
    subst (λ (txns : List TxnId). length txns ≤ limit) (names-alike reads sorted (names_of (all_cases sorted)) permuted (names-are (all_cases sorted)))
    (few (names_of (all_cases sorted)) (names-are (all_cases sorted)))
