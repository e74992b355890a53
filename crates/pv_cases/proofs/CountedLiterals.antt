-- How many literals cases have, counted one case after another.
use Rattle.std.proofs.Common.{◌≡◌, ℕ, ◌+◌, ◌<◌, ◌≤◌, List, [], ◌∷◌, map, drop, length, get_or, sym, ap, ◌∙◌, arith}
use Rattle.std.proofs.lemmas.List.{at_drop_more, drop_all}
use Rattle.std.proofs.lemmas.List.Sums.{sum_by-cons}
use Rattle.std.specs.List.{sum}
use Rattle.pv_base.specs.Polyvalue.{Case}

module _ {V : Type 0} where
  abbrev count : List (Case V) → ℕ
  count cases = sum (map (λ (case : Case V). length case.when) cases)

  pub literals-next : (cases : List (Case V)) (i n more total : ℕ) (item : Case V) → i < length cases → item ≡ get_or cases i item → more ≡ length item.when
      → n + sum (map (λ (case : Case V). length case.when) (drop i cases)) ≡ total
      → (n + more) + sum (map (λ (case : Case V). length case.when) (drop (i + 1) cases)) ≡ total
  literals-next cases i n more total item within is same so_far =
      let step : n + count (drop i cases) ≡ n + count (get_or cases i item ∷ drop (i + 1) cases) =
      at_drop_more (λ (left : List (Case V)). n + count left) cases i item within in
      let first : count (get_or cases i item ∷ drop (i + 1) cases) ≡ length (get_or cases i item).when + count (drop (i + 1) cases) =
      sum_by-cons (λ m. m) (length (get_or cases i item).when) (map (λ (case : Case V). length case.when) (drop (i + 1) cases)) in
      let here : length item.when ≡ length (get_or cases i item).when = ap (λ (case : Case V). length case.when) is in
      let before : n + count (drop i cases) ≡ total = so_far in
      omega (arith, step, first, before, here, same)

  pub literals-end : (cases : List (Case V)) (i n total : ℕ) → length cases ≤ i
      → n + sum (map (λ (case : Case V). length case.when) (drop i cases)) ≡ total → n ≡ total
  literals-end cases i n total past so_far =
      let none : n + count (drop i cases) ≡ n + count [] = ap (λ (left : List (Case V)). n + count left) (drop_all i cases past) in
      let before : n + count (drop i cases) ≡ total = so_far in
      let after : n + 0 ≡ total = sym none ∙ before in
      omega (arith, after)
