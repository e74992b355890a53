-- Sorted lists of transactions: what stands in them, and how often, by those that stand first behind the earlier ones.
use Rattle.std.proofs.Common.{◌≡◌, ⊎_elim, ◌<◌, ◌≤◌, ◌+◌, ℕ, suc, Bool, true, false, ◌&&◌, List, [], ◌∷◌, ◌++◌, cond, refl, sym, ap, subst, ◌∙◌, length, take, drop, get_or, arith}
use Rattle.std.specs.Prelude.{IsTrue, ◌↔◌}
use Rattle.std.specs.List.{AllPairs, Contains, filter}
use Rattle.std.specs.List.Sorted.{IsPartitionedBy, IsPartitionPoint, IsPermutation, IsSorted}
use Rattle.std.proofs.lemmas.Bool.{false≢true, both_ways, lt-ltb, le-ltb, or_cases, or_left, or_right, false_from_ne_true, true_from_ne_false}
use Rattle.std.proofs.lemmas.List.{get_or-drop, get_or-take, length-append, length-drop, length-take-le, take-append-drop}
use Rattle.std.proofs.lemmas.List.Elements.{All-contains, All-head, All-tail, Contains-append_cases, Contains-append_right, filter-append}
use Rattle.std.proofs.lemmas.List.Sorted.{Contains-permutation, IsPermutation-sym, ranks_by, sorted_far, sum_by-IsPermutation}
use Rattle.std.proofs.lemmas.List.Sums.{length-filter}
use Rattle.pv_audit.specs.Reports.{is_in, stands_twice}
use Rattle.pv_audit.specs.Sorted.{AreSorted, IsFrom}
use Rattle.pv_base.specs.Assignment.{AreAscending, commits, is_same_txn, precedes, txn_cmp}
use Rattle.pv_base.specs.Named.{with_txns}
use Rattle.pv_base.specs.declared.txn.TxnId.{TxnId}
use Rattle.pv_base.proofs.AssignmentLemmas.{order-of-two, precedes-other', precedes-trans, same-eq, same-from-eq, same-refl, same-sym}
use Rattle.pv_base.proofs.ContainsLemmas.{Contains-behind, Contains-cases, Contains-first, Contains-nil}
use Rattle.pv_base.proofs.OrderLemmas.{pairs-first, pairs-nil, pairs-tail}
use Rattle.pv_cases.proofs.TxnTests.{txn-total}
use Rattle.pv_law_polyvalues.proofs.AscendingLemmas.{one-ascending}
use Rattle.pv_law_step.proofs.NameLists.{united}

-- What commits stands in the list.
pub listed-commits : (txns : List TxnId) (txn : TxnId) → Contains txns txn → commits txns txn ≡ true
listed-commits [] txn h = absurd (Contains-nil txn h)
listed-commits (t ∷ ts) txn h =
    ⊎_elim
    (λ same. or_left (is_same_txn t txn) (commits ts txn) (same-from-eq same))
    (λ behind. or_right (is_same_txn t txn) (commits ts txn) (listed-commits ts txn behind))
    (Contains-cases t ts txn h)

pub commits-listed : (txns : List TxnId) (txn : TxnId) → commits txns txn ≡ true → Contains txns txn
commits-listed [] txn h = absurd (false≢true h)
commits-listed (t ∷ ts) txn h =
    ⊎_elim
    (λ same. subst (Contains (t ∷ ts)) (same-eq same) (Contains-first t ts))
    (λ behind. Contains-behind t ts txn (commits-listed ts txn behind))
    (or_cases (is_same_txn t txn) (commits ts txn) h)

same-count : (txns others : List TxnId) (p : TxnId → Bool) → IsPermutation others txns → length (filter p txns) ≡ length (filter p others)
same-count txns others p moved =
    length-filter p txns ∙ sum_by-IsPermutation (λ t. cond (p t) 1 0) others txns moved ∙ sym (length-filter p others)

-- A sorted list.

-- No transaction precedes one before it.
abbrev Rises : List TxnId → Type 0
Rises txns = AllPairs (λ txn later. precedes later txn ≡ false) txns

rises : (txns : List TxnId) → IsSorted txn_cmp txns → Rises txns
rises txns sorted = λ i j d before within. sorted_far (λ t u. precedes t u) (ranks_by txn-total (λ t. t)) txns sorted i j d (omega (arith, before)) within

rises-behind : (front rest : List TxnId) → Rises (front ++ rest) → Rises rest
rises-behind [] rest up = up
rises-behind (t ∷ front) rest up = rises-behind front rest (pairs-tail (λ txn later. precedes later txn ≡ false) t (front ++ rest) up)

neither-is-same : (t u : TxnId) → precedes t u ≡ false → precedes u t ≡ false → t ≡ u
neither-is-same t u not not-too =
    ⊎_elim (λ before. absurd (both_ways _ not before)) (λ rest. ⊎_elim (λ same. same) (λ behind. absurd (both_ways _ not-too behind)) rest) (order-of-two t u)

-- Behind one that doesn't precede the transaction and isn't it, it doesn't stand.
other-behind : (txn first : TxnId) (rest : List TxnId) → Rises (first ∷ rest) → precedes first txn ≡ false → is_same_txn first txn ≡ false → (u : TxnId) → Contains rest u → is_same_txn txn u ≡ false
other-behind txn first rest up not other u there =
    false_from_ne_true (is_same_txn txn u)
    (λ same. both_ways _ other (same-from-eq (neither-is-same first txn not
    (ap (λ (t : TxnId). precedes t first) (same-eq same) ∙ pairs-first (λ t later. precedes later t ≡ false) first rest up u there))))

none-kept : (p : TxnId → Bool) (xs : List TxnId) → ((x : TxnId) → Contains xs x → p x ≡ false) → length (filter p xs) ≡ 0
none-kept p [] none = refl
none-kept p (x ∷ xs) none =
    ap (λ (b : Bool). length (cond b (x ∷ filter p xs) (filter p xs))) (none x (Contains-first x xs))
    ∙ none-kept p xs (λ y there. none y (Contains-behind x xs y there))

first-kept : (p : TxnId → Bool) (x : TxnId) (xs : List TxnId) (b : Bool) → p x ≡ b → length (filter p (x ∷ xs)) ≡ length (cond b (x ∷ filter p xs) (filter p xs))
first-kept p x xs b is = ap (λ (c : Bool). length (cond c (x ∷ filter p xs) (filter p xs))) is

-- From the first one on that doesn't precede the transaction.

module _ (txn : TxnId) (txns others : List TxnId) (sorted : AreSorted txns others) where
  module _ (rest : List TxnId) (is : IsFrom txn txns rest) where
    rest-rises : Rises rest
    rest-rises = rises-behind is.front rest (subst Rises is.split (rises txns sorted.sorted))

    not-in-front : (u : TxnId) → Contains is.front u → is_same_txn txn u ≡ false
    not-in-front u there = precedes-other' u txn (All-contains (λ other. IsTrue (precedes other txn)) is.front u is.before there)

    in-rest : is_in others txn ≡ true → Contains rest txn
    in-rest h =
        ⊎_elim
        (λ front. absurd (both_ways _ (not-in-front txn front) (same-refl txn)))
        (λ here. here)
        (Contains-append_cases is.front rest txn
        (subst (λ (l : List TxnId). Contains l txn) is.split (Contains-permutation others txns txn sorted.permutation (commits-listed others txn h))))

    in-others : Contains rest txn → is_in others txn ≡ true
    in-others here =
        listed-commits others txn (Contains-permutation txns others txn (IsPermutation-sym others txns sorted.permutation)
        (subst (λ (l : List TxnId). Contains l txn) (sym is.split) (Contains-append_right is.front rest txn here)))

    count-is : length (filter (is_same_txn txn) others) ≡ length (filter (is_same_txn txn) rest)
    count-is =
        let parts : length (filter (is_same_txn txn) (is.front ++ rest)) ≡ length (filter (is_same_txn txn) is.front) + length (filter (is_same_txn txn) rest) =
        ap (λ (l : List TxnId). length l) (filter-append (is_same_txn txn) is.front rest) ∙ length-append (filter (is_same_txn txn) is.front) (filter (is_same_txn txn) rest) in
        let none : length (filter (is_same_txn txn) is.front) ≡ 0 = none-kept (is_same_txn txn) is.front not-in-front in
        let whole : length (filter (is_same_txn txn) txns) ≡ length (filter (is_same_txn txn) (is.front ++ rest)) = ap (λ (l : List TxnId). length (filter (is_same_txn txn) l)) is.split in
        let same : length (filter (is_same_txn txn) txns) ≡ length (filter (is_same_txn txn) others) = same-count txns others (is_same_txn txn) sorted.permutation in
        omega (arith, parts, none, whole, same)

  pub has-none : IsFrom txn txns [] → false ≡ is_in others txn
  has-none is = sym (false_from_ne_true (is_in others txn) (λ h. Contains-nil txn (in-rest [] is h)))

  has-by : (first : TxnId) (rest : List TxnId) (is : IsFrom txn txns (first ∷ rest)) (b : Bool) → is_same_txn first txn ≡ b → b ≡ is_in others txn
  has-by first rest is true same = sym (in-others (first ∷ rest) is (subst (Contains (first ∷ rest)) (same-eq same) (Contains-first first rest)))
  has-by first rest is false other =
      sym (false_from_ne_true (is_in others txn)
      (λ h. ⊎_elim
      (λ same. both_ways _ other (same-from-eq same))
      (λ behind. both_ways _ (other-behind txn first rest (rest-rises (first ∷ rest) is)
      (All-head (λ t. precedes t txn ≡ false) first rest is.behind) other txn behind) (same-refl txn))
      (Contains-cases first rest txn (in-rest (first ∷ rest) is h))))

  pub has-first : (first : TxnId) (rest : List TxnId) → IsFrom txn txns (first ∷ rest) → is_same_txn first txn ≡ is_in others txn
  has-first first rest is = has-by first rest is (is_same_txn first txn) refl

  pub twice-none : IsFrom txn txns [] → false ≡ stands_twice others txn
  twice-none is = let count : length (filter (is_same_txn txn) others) ≡ 0 = count-is [] is in sym (le-ltb 1 (length (filter (is_same_txn txn) others)) (omega (arith, count)))

  one-or-none : (first : TxnId) (b : Bool) → length (cond b (first ∷ []) []) ≤ 1
  one-or-none first true = omega arith
  one-or-none first false = omega arith

  pub twice-one : (first : TxnId) → IsFrom txn txns (first ∷ []) → false ≡ stands_twice others txn
  twice-one first is =
      let count : length (filter (is_same_txn txn) others) ≡ length (cond (is_same_txn txn first) (first ∷ []) []) = count-is (first ∷ []) is in
      let few = one-or-none first (is_same_txn txn first) in
      sym (le-ltb 1 (length (filter (is_same_txn txn) others)) (omega (arith, count, few)))

  twice-by : (first second : TxnId) (rest : List TxnId) (is : IsFrom txn txns (first ∷ second ∷ rest)) (b c : Bool) → is_same_txn first txn ≡ b → is_same_txn second txn ≡ c
      → (b && c) ≡ stands_twice others txn
  twice-by first second rest is true true same same-too =
      let count : length (filter (is_same_txn txn) others) ≡ length (filter (is_same_txn txn) (first ∷ second ∷ rest)) = count-is (first ∷ second ∷ rest) is in
      let one : length (filter (is_same_txn txn) (first ∷ second ∷ rest)) ≡ suc (length (filter (is_same_txn txn) (second ∷ rest))) =
      first-kept (is_same_txn txn) first (second ∷ rest) true (same-sym txn first ∙ same) in
      let two : length (filter (is_same_txn txn) (second ∷ rest)) ≡ suc (length (filter (is_same_txn txn) rest)) =
      first-kept (is_same_txn txn) second rest true (same-sym txn second ∙ same-too) in
      sym (lt-ltb 1 (length (filter (is_same_txn txn) others)) (omega (arith, count, one, two)))
  twice-by first second rest is true false same other =
      let up = rest-rises (first ∷ second ∷ rest) is in
      let not = All-head (λ t. precedes t txn ≡ false) second rest (All-tail (λ t. precedes t txn ≡ false) first (second ∷ rest) is.behind) in
      let count : length (filter (is_same_txn txn) others) ≡ length (filter (is_same_txn txn) (first ∷ second ∷ rest)) = count-is (first ∷ second ∷ rest) is in
      let one : length (filter (is_same_txn txn) (first ∷ second ∷ rest)) ≡ suc (length (filter (is_same_txn txn) (second ∷ rest))) =
      first-kept (is_same_txn txn) first (second ∷ rest) true (same-sym txn first ∙ same) in
      let two : length (filter (is_same_txn txn) (second ∷ rest)) ≡ length (filter (is_same_txn txn) rest) =
      first-kept (is_same_txn txn) second rest false (same-sym txn second ∙ other) in
      let none : length (filter (is_same_txn txn) rest) ≡ 0 =
      none-kept (is_same_txn txn) rest
      (other-behind txn second rest (pairs-tail (λ t later. precedes later t ≡ false) first (second ∷ rest) up) not other) in
      sym (le-ltb 1 (length (filter (is_same_txn txn) others)) (omega (arith, count, one, two, none)))
  twice-by first second rest is false c other h =
      let count : length (filter (is_same_txn txn) others) ≡ length (filter (is_same_txn txn) (first ∷ second ∷ rest)) = count-is (first ∷ second ∷ rest) is in
      let one : length (filter (is_same_txn txn) (first ∷ second ∷ rest)) ≡ length (filter (is_same_txn txn) (second ∷ rest)) =
      first-kept (is_same_txn txn) first (second ∷ rest) false (same-sym txn first ∙ other) in
      let none : length (filter (is_same_txn txn) (second ∷ rest)) ≡ 0 =
      none-kept (is_same_txn txn) (second ∷ rest)
      (other-behind txn first (second ∷ rest) (rest-rises (first ∷ second ∷ rest) is) (All-head (λ t. precedes t txn ≡ false) first (second ∷ rest) is.behind) other) in
      sym (le-ltb 1 (length (filter (is_same_txn txn) others)) (omega (arith, count, one, none)))

  pub twice-two : (first second : TxnId) (rest : List TxnId) → IsFrom txn txns (first ∷ second ∷ rest)
      → (is_same_txn first txn && is_same_txn second txn) ≡ stands_twice others txn
  twice-two first second rest is = twice-by first second rest is (is_same_txn first txn) (is_same_txn second txn) refl refl

-- The same, by the places of the rest.
module _ (txn : TxnId) (txns others : List TxnId) (sorted : AreSorted txns others) where
  pub has-short : (rest : List TxnId) → length rest < 1 → IsFrom txn txns rest → false ≡ is_in others txn
  has-short [] short is = has-none txn txns others sorted is
  has-short (first ∷ rest) short is = absurd (omega (arith, short))

  pub has-long : (rest : List TxnId) (d : TxnId) → 1 ≤ length rest → IsFrom txn txns rest → is_same_txn (get_or rest 0 d) txn ≡ is_in others txn
  has-long [] d long is = absurd (omega (arith, long))
  has-long (first ∷ rest) d long is = has-first txn txns others sorted first rest is

  pub twice-short : (rest : List TxnId) → length rest < 2 → IsFrom txn txns rest → false ≡ stands_twice others txn
  twice-short [] short is = twice-none txn txns others sorted is
  twice-short (first ∷ []) short is = twice-one txn txns others sorted first is
  twice-short (first ∷ second ∷ rest) short is = absurd (omega (arith, short))

  twice-long : (rest : List TxnId) (d e : TxnId) → 2 ≤ length rest → IsFrom txn txns rest
      → (is_same_txn (get_or rest 0 d) txn && is_same_txn (get_or rest 1 e) txn) ≡ stands_twice others txn
  twice-long [] d e long is = absurd (omega (arith, long))
  twice-long (first ∷ []) d e long is = absurd (omega (arith, long))
  twice-long (first ∷ second ∷ rest) d e long is = twice-two txn txns others sorted first second rest is

  pub twice-first : (rest : List TxnId) (d e : TxnId) (b c : Bool) → 2 ≤ length rest → IsFrom txn txns rest → b ≡ is_same_txn (get_or rest 0 d) txn → b ≡ true
      → c ≡ is_same_txn (get_or rest 1 e) txn → c ≡ stands_twice others txn
  twice-first rest d e b c long is first true-first second =
      second ∙ ap (λ (x : Bool). x && is_same_txn (get_or rest 1 e) txn) (sym true-first ∙ first) ∙ twice-long rest d e long is

  pub twice-other : (rest : List TxnId) (d : TxnId) (b : Bool) → 2 ≤ length rest → IsFrom txn txns rest → b ≡ is_same_txn (get_or rest 0 d) txn → b ≡ false
      → b ≡ stands_twice others txn
  twice-other rest d b long is first false-first =
      false-first ∙ ap (λ (x : Bool). x && is_same_txn (get_or rest 1 d) txn) (sym false-first ∙ first) ∙ twice-long rest d d long is

-- Where a search by who precedes the transaction ends, the rest begins.
pub parted : (txn : TxnId) (txns : List TxnId) (place : ℕ) → place ≤ length txns
    → IsPartitionPoint (λ other. precedes other txn ≡ true) (λ other. precedes other txn ≡ false) txns place → IsFrom txn txns (drop place txns)
parted txn txns place within parts = record {
  front = take place txns;
  split = sym (take-append-drop place txns);
  before = λ k d below.
      let here : k < place = omega (arith, below, length-take-le place txns within) in
      subst (λ (t : TxnId). precedes t txn ≡ true) (sym (get_or-take place txns k d here)) (parts.0 k d (omega arith) here);
  behind = λ k d below.
      let here : place + k < length txns = omega (arith, below, length-drop place txns, within) in
      subst (λ (t : TxnId). precedes t txn ≡ false) (sym (get_or-drop place txns k d)) (parts.1 (place + k) d (omega arith) here);
}

-- A sorted list is parted by who precedes the transaction.
pub parted-by : (txn : TxnId) (txns others : List TxnId) → AreSorted txns others → IsPartitionedBy (λ other. precedes other txn) txns
parted-by txn txns others sorted i j d before within later =
    true_from_ne_false (precedes (get_or txns i d) txn)
    (λ not. both_ways _
    (sorted_far (λ t u. precedes t u) (ranks_by txn-total (λ t. t)) txns sorted.sorted i j d before within)
    (by (get_or txns i d) (get_or txns j d) later not))
  where
    by : (first second : TxnId) → precedes second txn ≡ true → precedes first txn ≡ false → precedes second first ≡ true
    by first second before not =
        ⊎_elim
        (λ less. absurd (both_ways _ not less))
        (λ rest. ⊎_elim
        (λ same. subst (λ (t : TxnId). precedes second t ≡ true) (sym same) before)
        (λ more. precedes-trans second txn first before more)
        rest)
        (order-of-two first txn)

-- Each once.
pub once-is : (txns others once : List TxnId) → AreSorted txns others → AreAscending once → ((t : TxnId) → Contains once t ↔ Contains txns t) → once ≡ with_txns others []
once-is txns others once sorted up same =
    let all = united others [] (pairs-nil (λ txn later. IsTrue (precedes txn later))) in
    one-ascending once (with_txns others []) up all.ascending
    (λ t here. all.left t (Contains-permutation txns others t (IsPermutation-sym others txns sorted.permutation) ((same t).0 here)))
    (λ t here. (same t).1 (Contains-permutation others txns t sorted.permutation
    (⊎_elim (λ there. there) (λ none. absurd (Contains-nil t none)) (all.only t here))))
