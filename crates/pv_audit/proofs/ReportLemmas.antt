-- The lines of a report.
use Rattle.std.proofs.Common.{◌≡◌, ℕ, zero, suc, ◌+◌, ◌<◌, List, [], ◌∷◌, ◌++◌, length, map, get_or, ⊎_elim, eq-or-lt_of_le, refl, sym, ap, subst, ◌∙◌, arith}
use Rattle.pv_audit.specs.Traces.{AreItemLines, IsItemLine, IsReport}
use Rattle.pv_audit.proofs.CutLemmas.{same-head}
use Rattle.pv_audit.proofs.PartsLemmas.{behind}
use Rattle.pv_base.specs.Catalog.{Declared, Item}
use Rattle.pv_base.specs.declared.txn.TxnId.{TxnId}
use Rattle.pv_protocol.specs.Lines.{Line}
use Rattle.pv_script.specs.LineView.{line_of}
use Rattle.pv_script.specs.declared.line.Line as code

-- ---- one line for each item

-- Lines are as many as the items.
pub items-count : (n : ℕ) (items : List Item) (lines : List Line) → AreItemLines n items lines → length lines ≡ length items
items-count n [] lines are = ap (λ (l : List Line). length l) are
items-count n (item ∷ items) [] are = absurd are
items-count n (item ∷ items) (line ∷ lines) are = let rest = items-count (n + 1) items lines are.1 in omega (arith, rest)

-- Each is the one of its item,
pub item-at : (n : ℕ) (items : List Item) (lines : List Line) → AreItemLines n items lines → (i : ℕ) → i < length lines → IsItemLine (n + i) (get_or lines i Line.end)
item-at n [] lines are i below = let none = ap (λ (l : List Line). length l) are in absurd (omega (arith, none, below))
item-at n (item ∷ items) [] are i below = absurd are
item-at n (item ∷ items) (line ∷ lines) are zero below = let same : n ≡ n + 0 = omega arith in subst (λ (k : ℕ). IsItemLine k line) same are.0
item-at n (item ∷ items) (line ∷ lines) are (suc i) below =
    let same : (n + 1) + i ≡ n + suc i = omega arith in
    subst (λ (k : ℕ). IsItemLine k (get_or lines i Line.end)) same (item-at (n + 1) items lines are.1 i (omega (arith, below)))

-- and where each is, all are.
pub items-are : (n : ℕ) (items : List Item) (lines : List Line) → length lines ≡ length items → ((i : ℕ) → i < length lines → IsItemLine (n + i) (get_or lines i Line.end))
    → AreItemLines n items lines
items-are n [] [] count each = refl
items-are n [] (line ∷ lines) count each = absurd (omega (arith, count))
items-are n (item ∷ items) [] count each = absurd (omega (arith, count))
items-are n (item ∷ items) (line ∷ lines) count each =
    let same : n + 0 ≡ n = omega arith in (
      subst (λ (k : ℕ). IsItemLine k line) same (each 0 (omega arith)),
      items-are (n + 1) items lines (omega (arith, count)) (λ i below.
          let next : n + suc i ≡ (n + 1) + i = omega arith in
          subst (λ (k : ℕ). IsItemLine k (get_or lines i Line.end)) next (each (suc i) (omega (arith, below)))),
    )

-- One line more is the one of its item.
pub one-more : (lines : List Line) (k : ℕ) (line : Line) → line ≡ get_or lines k Line.end → IsItemLine k line → ((i : ℕ) → i < k → IsItemLine i (get_or lines i Line.end))
    → (i : ℕ) → i < k + 1 → IsItemLine i (get_or lines i Line.end)
one-more lines k line at is before i below =
    ⊎_elim
    (λ (same : i ≡ k). subst (λ (j : ℕ). IsItemLine j (get_or lines j Line.end)) (sym same) (subst (λ (l : Line). IsItemLine k l) at is))
    (λ (less : i < k). before i less)
    (eq-or-lt_of_le (omega (arith, below)))

-- a line of the code, as one of the definitions
pub line-at : (lines : List code.Line) (k : ℕ) (d : code.Line) → k < length lines → line_of (get_or lines k d) ≡ get_or (map line_of lines) k Line.end
line-at [] k d below = absurd (omega (arith, below))
line-at (l ∷ lines) zero d below = refl
line-at (l ∷ lines) (suc k) d below = line-at lines k d (omega (arith, below))

-- ---- a report

-- its head, its items and its end
pub report-is : (catalog : Declared) (lines items : List Line) (last : Line) (ordered committed open_ones : List TxnId)
    → lines ≡ Line.order ordered ∷ (Line.committed committed ∷ (Line.open_ones open_ones ∷ (items ++ last ∷ []))) → last ≡ Line.end → AreItemLines 0 catalog.items items
    → IsReport catalog lines
report-is catalog lines items last ordered committed open_ones is ends each = record {
  ordered = ordered;
  committed = committed;
  open_ones = open_ones;
  items = items;
  is = is ∙ ap (λ (l : Line). Line.order ordered ∷ (Line.committed committed ∷ (Line.open_ones open_ones ∷ (items ++ l ∷ [])))) ends;
  each = each;
}

-- what stands behind the first three lines
pub tail-of : (lines rest : List Line) (ordered committed open_ones o c p : List TxnId) (others : List Line)
    → lines ≡ Line.order ordered ∷ (Line.committed committed ∷ (Line.open_ones open_ones ∷ rest)) → lines ≡ Line.order o ∷ (Line.committed c ∷ (Line.open_ones p ∷ others)) → rest ≡ others
tail-of lines rest ordered committed open_ones o c p others is also = behind (behind (behind (sym is ∙ also)))

-- A list is cut in one way before its last element.
pub one-last : {X : Type 0} (xs ys : List X) (x y : X) → xs ++ x ∷ [] ≡ ys ++ y ∷ [] → (xs ≡ ys) × (x ≡ y)
one-last [] [] x y same = (refl, same-head same)
one-last [] (z ∷ []) x y same = absurd (let never : ⊥ = cc in never)
one-last [] (z ∷ w ∷ ys) x y same = absurd (let never : ⊥ = cc in never)
one-last (z ∷ []) [] x y same = absurd (let never : ⊥ = cc in never)
one-last (z ∷ w ∷ xs) [] x y same = absurd (let never : ⊥ = cc in never)
one-last (z ∷ xs) (w ∷ ys) x y same =
    let head : z ≡ w = same-head same in
    let rest = one-last xs ys x y (behind same) in
    ((λ i. head i ∷ rest.0 i), rest.1)

-- no lines are behind nothing
pub none-last : {X : Type 0} (xs : List X) (x : X) → xs ++ x ∷ [] ≡ [] → ⊥
none-last [] x same = cc
none-last (y ∷ xs) x same = cc
