-- The items that a program names are one ascending list.
use Rattle.std.proofs.Common.{◌≡◌, ⊎_elim, ℕ, ◌+◌, ◌<◌, Bool, true, List, arith}
use Rattle.std.specs.Prelude.{◌||◌, ◌==◌, IsTrue}
use Rattle.std.specs.List.{AllPairs, Contains, filter, range_with_len}
use Rattle.std.proofs.lemmas.Bool.{eqb-true, or_cases, false≢true}
use Rattle.std.proofs.lemmas.List.Elements.{All-contains, filter_passes}
use Rattle.std.proofs.lemmas.List.FromFn.{length-range_with_len, get_or-range_with_len}
use Rattle.std.proofs.lemmas.List.Kept.{AllPairs-filter}
use Rattle.pv_base.proofs.ContainsLemmas.{Contains-filter}
use Rattle.pv_base.proofs.OrderLemmas.{one-ascending_by}
use Rattle.pv_model.specs.Syntax.{Expr, number, item, minus, negation, two, Program, end, assign, require, certain, return, when, when_else}
use Rattle.pv_model.specs.Check.{reads, names_item, AreItems}

pub one_items : (program : Program) (items others : List ℕ) → AreItems program items → AreItems program others → items ≡ others
one_items program items others are them =
    one-ascending_by (λ (n : ℕ). n) items others are.ascending them.ascending
    (λ n h. them.whole n (All-contains (λ (n : ℕ). IsTrue (names_item program n)) items n are.each h))
    (λ n h. are.whole n (All-contains (λ (n : ℕ). IsTrue (names_item program n)) others n them.each h))

-- Each program has such a list.

-- a number above those of all items that the expression names
abbrev above_expr : Expr → ℕ
above_expr (number z) = 0
above_expr (item m) = m + 1
above_expr (minus e) = above_expr e
above_expr (negation e) = above_expr e
above_expr (two op left right) = above_expr left + above_expr right

-- a number above those of all items that the program names
abbrev above : Program → ℕ
above end = 0
above (assign m e next) = m + 1 + (above_expr e + above next)
above (require e next) = above_expr e + above next
above (certain m next) = m + 1 + above next
above (return e next) = above_expr e + above next
above (when e body next) = above_expr e + (above body + above next)
above (when_else e body other next) = above_expr e + (above body + (above other + above next))

-- What one of two tests finds is below the sum of their bounds.
below-either : (a b : Bool) (n k m : ℕ) → (a ≡ true → n < k) → (b ≡ true → n < m) → (a || b) ≡ true → n < k + m
below-either a b n k m left right h =
    ⊎_elim (λ is. omega (arith, left is)) (λ is. omega (arith, right is)) (or_cases a b h)

below-expr : (e : Expr) (n : ℕ) → reads e n ≡ true → n < above_expr e
below-expr (number z) n is = absurd (false≢true is)
below-expr (item m) n is = omega (arith, eqb-true m n is)
below-expr (minus e) n is = below-expr e n is
below-expr (negation e) n is = below-expr e n is
below-expr (two op left right) n is =
    below-either (reads left n) (reads right n) n _ _ (below-expr left n) (below-expr right n) is

below-program : (program : Program) (n : ℕ) → names_item program n ≡ true → n < above program
below-program end n is = absurd (false≢true is)
below-program (assign m e next) n is =
    below-either (m == n) (reads e n || names_item next n) n (m + 1) _
    (λ is. omega (arith, eqb-true m n is))
    (below-either (reads e n) (names_item next n) n _ _ (below-expr e n) (below-program next n)) is
below-program (require e next) n is =
    below-either (reads e n) (names_item next n) n _ _ (below-expr e n) (below-program next n) is
below-program (certain m next) n is =
    below-either (m == n) (names_item next n) n (m + 1) _ (λ is. omega (arith, eqb-true m n is)) (below-program next n) is
below-program (return e next) n is =
    below-either (reads e n) (names_item next n) n _ _ (below-expr e n) (below-program next n) is
below-program (when e body next) n is =
    below-either (reads e n) (names_item body n || names_item next n) n _ _ (below-expr e n)
    (below-either (names_item body n) (names_item next n) n _ _ (below-program body n) (below-program next n)) is
below-program (when_else e body other next) n is =
    below-either (reads e n) (names_item body n || (names_item other n || names_item next n)) n _ _ (below-expr e n)
    (below-either (names_item body n) (names_item other n || names_item next n) n _ _ (below-program body n)
    (below-either (names_item other n) (names_item next n) n _ _ (below-program other n) (below-program next n))) is

range-ascending : (count : ℕ) → AllPairs (λ n later. n < later) (range_with_len 0 count)
range-ascending count = λ i j d before within.
    let inside : j < count = omega (arith, within, length-range_with_len 0 count) in
    omega (arith, before, get_or-range_with_len 0 count i d (omega (arith, before, inside)), get_or-range_with_len 0 count j d inside)

range-whole : (count n : ℕ) → n < count → Contains (range_with_len 0 count) n
range-whole count n within = (n, omega (arith, within, length-range_with_len 0 count), omega (arith, get_or-range_with_len 0 count n n within))

pub some_items : (program : Program) → (items : List ℕ) × AreItems program items
some_items program =
    let all = range_with_len 0 (above program) in (
      filter (names_item program) all,
      record {
        ascending = AllPairs-filter (λ n later. n < later) (names_item program) all (range-ascending (above program));
        each = filter_passes (names_item program) all;
        whole = λ n named. Contains-filter (names_item program) all n named (range-whole (above program) n (below-program program n named));
      },
    )
