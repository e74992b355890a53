-- Where an item stands, and the face that stands there.
use Rattle.std.proofs.Common.{◌≡◌, ⊎_elim, ℕ, ◌<◌, ◌≤◌, ◌-◌, leb, true, false, List, length, get_or, slice_get, Some, Result, Ok, Err, MatchResult, refl, ap, subst, ◌∙◌, arith}
use Rattle.std.specs.List.{AllPairs, Contains}
use Rattle.std.specs.List.Sorted.{IsBinarySearchResult}
use Rattle.std.specs.Ordering.{nat_cmp}
use Rattle.std.specs.Option.{option_map_or}
use Rattle.std.proofs.lemmas.Bool.Decides.{leb_tells}
use Rattle.std.proofs.lemmas.List.Elements.{All-get_or}
use Rattle.std.proofs.lemmas.List.Sorted.{searched}
use Rattle.std.proofs.lemmas.Option.{slice_get-get_or, slice_get_within, get_or_from_slice_get}
use Rattle.pv_shelf.specs.Part.{Part}
use Rattle.pv_shelf.specs.Log.{latest, steps_of, width_of, IsLog}

-- What is sought among ascending numbers, and is there, is found.
pub found-place : (items : List ℕ) (item : ℕ) (r : Result ℕ ℕ) → IsBinarySearchResult (λ y. nat_cmp y item) items r
    → AllPairs (λ item later. item < later) items → Contains items item → (place : ℕ) × (r ≡ Ok place) × (slice_get items place ≡ Some item)
found-place items item r result rises there = by r (searched items item r result rising)
  where
    rising : (i j : ℕ) → i ≤ j → j < length items → get_or items i 0 ≤ get_or items j 0
    rising i j le less = ⊎_elim
        (λ (past : (leb j i ≡ true) × (j ≤ i)). let same : i ≡ j = omega (arith, past.1, le) in let e = ap (λ (k : ℕ). get_or items k 0) same in omega (arith, e))
        (λ (before : (leb j i ≡ false) × (i < j)). let l = rises i j 0 before.1 less in omega (arith, l)) (leb_tells j i)

    here : get_or items there.0 0 ≡ item
    here = get_or_from_slice_get items there.0 (get_or items there.0 item) 0 (slice_get-get_or items there.0 item there.1) ∙ there.2

    by : (r : Result ℕ ℕ) → MatchResult r (λ i. (i < length items) × (get_or items i 0 ≡ item))
        (λ i. (i ≤ length items) × ((k : ℕ) → k < i → get_or items k 0 < item) × ((k : ℕ) → i ≤ k → k < length items → item < get_or items k 0))
        → (place : ℕ) × (r ≡ Ok place) × (slice_get items place ≡ Some item)
    by (Ok place) its = (place, refl, slice_get-get_or items place 0 its.0 ∙ ap Some its.1)
    by (Err place) its = absurd (⊎_elim
        (λ (behind : (leb place there.0 ≡ true) × (place ≤ there.0)). let l = its.2 there.0 behind.1 there.1 in omega (arith, l, here))
        (λ (before : (leb place there.0 ≡ false) × (there.0 < place)). let l = its.1 there.0 before.1 in omega (arith, l, here)) (leb_tells place there.0))

-- The last part has as many faces as each other.
pub latest-wide : (log : List Part) (part : Part) → IsLog log → latest log ≡ Some part → length part.faces ≡ width_of log
latest-wide log part its last =
    let within = slice_get_within log (length log - 1) part last in
    subst (λ (p : Part). length p.faces ≡ width_of log) (get_or_from_slice_get log (length log - 1) part part last)
    (All-get_or (λ (p : Part). length p.faces ≡ width_of log) log (length log - 1) part within its.even)

pub latest-steps : (log : List Part) (part : Part) → latest log ≡ Some part → steps_of log ≡ part.steps
latest-steps log part last = ap (λ found. option_map_or (λ (p : Part). p.steps) found 0) last
