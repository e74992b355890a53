-- Gaps of cases show in the meetings of the assignments of their names, and cases without overlap and gap are sound.
use Rattle.std.proofs.Common.{◌≡◌, ℕ, ◌+◌, ◌<◌, ◌≤◌, Bool, true, false, not, List, [], ◌∷◌, map, length, Option, Some, None, cond, ltb, refl, sym, ap, ap₂, subst, ◌∙◌, arith}
use Rattle.std.specs.Prelude.{slice_get, is_none}
use Rattle.std.specs.List.{Contains, find, position, position_or_len}
use Rattle.std.proofs.lemmas.Option.{none-some}
use Rattle.std.proofs.lemmas.Bool.{ltb-false}
use Rattle.std.proofs.lemmas.List.Folds.{find_at}
use Rattle.std.proofs.lemmas.List.Sums.{fails_before_first}
use Rattle.pv_base.specs.declared.txn.TxnId.{TxnId}
use Rattle.pv_base.specs.Assignment.{assignments}
use Rattle.pv_base.specs.Polyvalue.{Case, value_at, AreNames, IsSound}
use Rattle.pv_base.specs.CaseFaults.{Overlap, IsFirstGap, AreDisjoint, AreComplete}
use Rattle.pv_base.proofs.Basics.{Some_inj}
use Rattle.pv_cases.specs.Meetings.{places_met, meeting_of, meetings_of}
use Rattle.pv_cases.specs.Joining.{is_gap}
use Rattle.pv_cases.proofs.MeetingLemmas.{places-up, placed, met-at, gap-of-meeting, length-places, one-place, no-two-places, some-place}
use Rattle.pv_cases.proofs.OverlapLemmas.{meeting-shows}

-- Searches.

-- A search among what a function gives is a search among what it is given.
position-map : {X Y : Type 0} (p : Y → Bool) (q : X → Bool) (f : X → Y) → ((x : X) → p (f x) ≡ q x) → (xs : List X)
    → position_or_len p (map f xs) ≡ position_or_len q xs
position-map p q f same [] = refl
position-map p q f same (x ∷ xs) =
    ap₂ (λ (b : Bool) (n : ℕ). cond (not b) (1 + n) 0) (same x) (position-map p q f same xs)

at-by : (b : Bool) (n place : ℕ) → cond b (Some n) None ≡ Some place → n ≡ place
at-by true n place is = Some_inj is
at-by false n place is = absurd (none-some _ is)

position-at : {X : Type 0} (p : X → Bool) (xs : List X) (place : ℕ) → position p xs ≡ Some place → position_or_len p xs ≡ place
position-at p xs place is = at-by (ltb (position_or_len p xs) (length xs)) (position_or_len p xs) place is

nowhere-by : (b : Bool) (n : ℕ) → cond b (Some n) None ≡ None → b ≡ false
nowhere-by true n is = absurd (none-some _ (sym is))
nowhere-by false n is = refl

-- Where no place is found, no element passes.
position-nowhere : {X : Type 0} (p : X → Bool) (xs : List X) → position p xs ≡ None → (x : X) → Contains xs x → p x ≡ false
position-nowhere p xs is x (k, within, at) =
    let past : length xs ≤ position_or_len p xs =
    ltb-false (position_or_len p xs) (length xs) (nowhere-by (ltb (position_or_len p xs) (length xs)) (position_or_len p xs) is) in
    subst (λ y. p y ≡ false) at (fails_before_first p xs k x (omega (arith, past, within)))

found-by : {X : Type 0} (p : X → Bool) (y x : X) (rest : Option X) (b : Bool) → p y ≡ b → (rest ≡ Some x → p x ≡ true)
    → cond b (Some y) rest ≡ Some x → p x ≡ true
found-by p y x rest true passes later is = subst (λ z. p z ≡ true) (Some_inj is) passes
found-by p y x rest false fails later is = later is

-- What is found passes.
pub found-passes : {X : Type 0} (p : X → Bool) (xs : List X) (x : X) → find p xs ≡ Some x → p x ≡ true
found-passes p [] x is = absurd (none-some _ is)
found-passes p (y ∷ ys) x is = found-by p y x (find p ys) (p y) refl (found-passes p ys x) is

module _ {V : Type 0} where
  -- The assignment at the place of the first gap is the first that meets no case.
  pub first-gap-there : (cases : List (Case V)) (txns : List TxnId) (place : ℕ) (a : List TxnId) → position is_gap (meetings_of cases txns) ≡ Some place
      → slice_get (assignments txns) place ≡ Some a → IsFirstGap cases txns a
  first-gap-there cases txns place a is there =
      find_at (λ candidate. is_none (value_at cases candidate)) (assignments txns)
      ∙ ap (slice_get (assignments txns))
      (sym (position-map is_gap (λ candidate. is_none (value_at cases candidate)) (λ a. meeting_of (places_met cases a)) (gap-of-meeting cases) (assignments txns))
      ∙ position-at is_gap (meetings_of cases txns) place is)
      ∙ there

  pub no-gap-complete : (cases : List (Case V)) (txns : List TxnId) → AreNames cases txns → position is_gap (meetings_of cases txns) ≡ None → AreComplete cases
  no-gap-complete cases txns are none a =
      sym (gap-of-meeting cases a)
      ∙ position-nowhere is_gap (meetings_of cases txns) none (meeting_of (places_met cases a)) (meeting-shows cases txns are a)

  -- Two places that an assignment meets overlap.
  two-overlap : (cases : List (Case V)) (a : List TxnId) (x y : ℕ) → Contains (places_met cases a) x → Contains (places_met cases a) y → x < y → Overlap cases x y
  two-overlap cases a x y hx hy less = record { ordered = less; assignment = a; first_met = met-at cases a x hx; second_met = met-at cases a y hy }

  pub disjoint-complete-sound : (cases : List (Case V)) → AreDisjoint cases → AreComplete cases → IsSound cases
  disjoint-complete-sound cases apart whole a =
      sym (length-places 0 cases a)
      ∙ one-place 0 (places_met cases a) (places-up 0 cases a)
      (λ x y hx hy less. apart x y (two-overlap cases a x y hx hy less))
      (gap-of-meeting cases a ∙ whole a)

  pub sound-disjoint : (cases : List (Case V)) → IsSound cases → AreDisjoint cases
  sound-disjoint cases sound x y o =
      no-two-places 0 (places_met cases o.assignment) (places-up 0 cases o.assignment) (length-places 0 cases o.assignment ∙ sound o.assignment) x y
      (placed cases o.assignment x o.first_met) (placed cases o.assignment y o.second_met) o.ordered

  pub sound-complete : (cases : List (Case V)) → IsSound cases → AreComplete cases
  sound-complete cases sound a =
      sym (gap-of-meeting cases a) ∙ some-place (places_met cases a) (length-places 0 cases a ∙ sound a)
