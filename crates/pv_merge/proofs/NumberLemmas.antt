-- The number of a message is that of its moment's first message, and its place; and where a moment is found.
use Rattle.std.proofs.Common.{◌≡◌, ℕ, suc, zero, ◌+◌, ◌<◌, Bool, true, false, if◌then◌else◌, List, [], ◌∷◌, All, length, map, get_or, sym, refl, ap, ◌∙◌, subst, inl, inr, ⊎_elim, arith}
use Rattle.std.specs.List.Sorted.{IsPartitionPoint, IsPartitionedBy}
use Rattle.std.proofs.lemmas.Bool.{true≢false}
use Rattle.std.proofs.lemmas.List.{length-map}
use Rattle.std.proofs.lemmas.List.Elements.{All-head, All-tail}
use Rattle.pv_law_histories.specs.History.{tick, down}
use Rattle.pv_law_histories.specs.Merge as model
use Rattle.pv_law_histories.specs.Merge.{IsBefore, AreInOrder, number_of}
use Rattle.pv_law_histories.proofs.MergingLemmas.{before-test, test-before, before-trans}
use Rattle.pv_law_histories.proofs.MomentLemmas.{is_of, is_of-itself, before-other, number-here}
use Rattle.pv_merge.specs.Moments.{HasMoment, is_earlier, moment_of}
use Rattle.pv_merge.specs.Numbers.{numbers_from}
use Rattle.pv_merge.specs.declared.moment.Moment.{Moment}

-- a moment of this site and stamp
abbrev mark : (site stamp : ℕ) → model.Moment
mark site stamp = record { site = site; entry = record { stamp = stamp; intake = tick; sends = 0; short = 0; came = down } }

-- Where one of these is of this site and stamp, a moment before them all is earlier.
earlier-than : (site stamp : ℕ) (first : model.Moment) (moments : List model.Moment) → All (IsBefore first) moments → HasMoment site stamp moments
    → is_earlier site stamp first ≡ true
earlier-than site stamp first [] before there = absurd there
earlier-than site stamp first (moment ∷ moments) before there =
    ⊎_elim
    (λ is. before-test first (mark site stamp)
    (⊎_elim (λ less. let stamps = is.1 in inl (omega arith)) (λ same. let stamps = is.1 in let sites = is.0 in let one = same.0 in let less = same.1 in inr (omega arith, omega arith))
    (All-head (IsBefore first) moment moments before)))
    (λ later. earlier-than site stamp first moments (All-tail (IsBefore first) moment moments before) later)
    there

-- One that is earlier isn't of this site and stamp.
earlier-apart : (site stamp : ℕ) (moment : model.Moment) → is_earlier site stamp moment ≡ true → is_of site stamp moment ≡ false
earlier-apart site stamp moment is = before-other moment (mark site stamp) (test-before moment (mark site stamp) is)

is_of-these : (site stamp : ℕ) (moment : model.Moment) → (moment.site ≡ site) × (moment.entry.stamp ≡ stamp) → is_of site stamp moment ≡ true
is_of-these site stamp moment is =
    subst (λ (n : ℕ). is_of n stamp moment ≡ true) is.0 (subst (λ (at : ℕ). is_of moment.site at moment ≡ true) is.1 (is_of-itself moment))

never : (test : Bool) → test ≡ true → test ≡ false → ⊥
never test is other = true≢false (sym is ∙ other)

from-none : (n : ℕ) → n ≡ 0 + n
from-none n = omega arith

add-later : (a b c d : ℕ) → a + b + c ≡ d → a + (b + c) ≡ d
add-later a b c d is = omega arith

-- What holds of all moments holds of the one at this place.
pub at-place : (P : model.Moment → Type 0) (moments : List Moment) (j : ℕ) (d : Moment) → All P (map moment_of moments) → j < length moments
    → P (moment_of (get_or moments j d))
at-place P [] j d all within = absurd (omega arith)
at-place P (moment ∷ moments) zero d all within = All-head P (moment_of moment) (map moment_of moments) all
at-place P (moment ∷ moments) (suc j) d all within = at-place P moments j d (All-tail P (moment_of moment) (map moment_of moments) all) (omega arith)

pub length-numbers : (sent : ℕ) (moments : List model.Moment) → length (numbers_from sent moments) ≡ length moments
length-numbers sent [] = refl
length-numbers sent (moment ∷ moments) = ap suc (length-numbers (sent + moment.entry.sends) moments)

module _ (site stamp : ℕ) where
  abbrev earlier : Moment → Bool
  earlier moment = is_earlier site stamp (moment_of moment)

  -- Moments in order are parted by which are earlier.
  pub parted : (moments : List Moment) → AreInOrder (map moment_of moments) → IsPartitionedBy earlier moments
  parted [] order i j d le within passes = absurd (omega (arith, within))
  parted (moment ∷ moments) order zero zero d le within passes = passes
  parted (moment ∷ moments) order zero (suc j) d le within passes =
      let there : j < length moments = omega (arith, within) in
      before-test (moment_of moment) (mark site stamp)
      (before-trans (moment_of moment) (moment_of (get_or moments j d)) (mark site stamp) (at-place (IsBefore (moment_of moment)) moments j d order.0 there)
      (test-before (moment_of (get_or moments j d)) (mark site stamp) passes))
  parted (moment ∷ moments) order (suc i) zero d le within passes = absurd (omega (arith, le))
  parted (moment ∷ moments) order (suc i) (suc j) d le within passes = parted moments order.1 i j d (omega (arith, le)) (omega (arith, within)) passes

  -- Where they are parted the moment of this site and stamp is found, if there is one.
  pub number-found : (place sent at : ℕ) (moments : List Moment) → AreInOrder (map moment_of moments)
      → IsPartitionPoint (λ moment. earlier moment ≡ true) (λ moment. earlier moment ≡ false) moments at → HasMoment site stamp (map moment_of moments)
      → (at < length moments) × (sent + number_of (map moment_of moments) site stamp place ≡ get_or (numbers_from sent (map moment_of moments)) at 0 + place)
  number-found place sent at [] order parted there = absurd there
  number-found place sent zero (moment ∷ moments) order parted there =
      ⊎_elim
      (λ is. (
        omega arith,
        ap (λ (n : ℕ). sent + n)
            (number-here site stamp place (moment_of moment) (map moment_of moments) (is_of-these site stamp (moment_of moment) is)),
      ))
      (λ later. absurd (never (earlier moment) (earlier-than site stamp (moment_of moment) (map moment_of moments) order.0 later)
      (parted.1 zero moment (omega arith) (omega arith))))
      there
  number-found place sent (suc at) (moment ∷ moments) order parted there =
      let passes : earlier moment ≡ true = parted.0 zero moment (omega arith) (omega arith) in
      let apart = earlier-apart site stamp (moment_of moment) passes in
      ⊎_elim
      (λ is. absurd (never (is_of site stamp (moment_of moment)) (is_of-these site stamp (moment_of moment) is) apart))
      (λ later.
      let rest = number-found place (sent + moment.entry.now.sends) at moments order.1
      ((λ k d low high. parted.0 (suc k) d (omega arith) (omega (arith, high))), (λ k d low high. parted.1 (suc k) d (omega (arith, low)) (omega (arith, high)))) later in (
        let within = rest.0 in omega arith,
        ap (λ (test : Bool). sent + (if test then place else moment.entry.now.sends + number_of (map moment_of moments) site stamp place)) apart
            ∙ add-later sent moment.entry.now.sends (number_of (map moment_of moments) site stamp place) _ rest.1,
      ))
      there

  -- So it is among numbers that are those of the moments.
  pub number-place : (place at : ℕ) (moments : List Moment) (numbers : List ℕ) → AreInOrder (map moment_of moments) → numbers ≡ numbers_from 0 (map moment_of moments)
      → IsPartitionPoint (λ moment. earlier moment ≡ true) (λ moment. earlier moment ≡ false) moments at → HasMoment site stamp (map moment_of moments)
      → (at < length numbers) × (number_of (map moment_of moments) site stamp place ≡ get_or numbers at 0 + place)
  number-place place at moments numbers order is parted there =
      let found = number-found place 0 at moments order parted there in
      let within = found.0 in (
        omega (arith, within, ap length is, length-numbers 0 (map moment_of moments), length-map moments moment_of),
        from-none (number_of (map moment_of moments) site stamp place) ∙ found.1 ∙ ap (λ (all : List ℕ). get_or all at 0 + place) (sym is),
      )
