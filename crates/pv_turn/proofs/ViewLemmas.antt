-- What becomes of the views of a turn when one of them changes or one is added.
use Rattle.std.proofs.Common.{◌≡◌, ◌≢◌, ℕ, zero, suc, ◌+◌, ◌<◌, ◌≤◌, List, [], ◌∷◌, ◌++◌, length, set, sym, refl, ap, ◌∙◌, subst, ⊎_elim, arith}
use mathlib.Core.Option.{some, some-injective, some-ne-none}
use mathlib.Core.List.{IsPrefix}
use base.Growing.{prefix_trans}
use lib.ListN.{get_elem?}
use Rattle.atomic_table.proofs.Lists.{at_set, at_snoc, set_else}
use Rattle.pv_turn.specs.declared.view.View.{View}
use Rattle.pv_turn.specs.Rule.{rests, parts_of, Fits, AllFit, AllRest, OthersRest}

module _ {E : Type 0} where
  -- ## How many seats the views stand for
  pub parts-set : (views : List (View E)) (place : ℕ) (v w : View E) → get_elem? views place ≡ some v
      → parts_of (set views place w) + v.parts ≡ parts_of views + w.parts
  parts-set [] place v w at = absurd (some-ne-none v (sym at))
  parts-set (u ∷ views) zero v w at = let same = ap (λ (x : View E). x.parts) (some-injective u v at) in omega arith
  parts-set (u ∷ views) (suc place) v w at = let rest = parts-set views place v w at in omega arith

  pub parts-snoc : (views : List (View E)) (w : View E) → parts_of (views ++ w ∷ []) ≡ parts_of views + w.parts
  parts-snoc [] w = omega arith
  parts-snoc (u ∷ views) w = let rest = parts-snoc views w in omega arith

  pub parts-at : (views : List (View E)) (place : ℕ) (v : View E) → get_elem? views place ≡ some v → v.parts ≤ parts_of views
  parts-at [] place v at = absurd (some-ne-none v (sym at))
  parts-at (u ∷ views) zero v at = let same = ap (λ (x : View E). x.parts) (some-injective u v at) in omega arith
  parts-at (u ∷ views) (suc place) v at = let rest = parts-at views place v at in omega arith

  -- Two views at two places stand for no more than all of them.
  pub parts-two : (views : List (View E)) (place other : ℕ) (v w : View E) → place ≢ other
      → get_elem? views place ≡ some v → get_elem? views other ≡ some w → v.parts + w.parts ≤ parts_of views
  parts-two [] place other v w apart at there = absurd (some-ne-none v (sym at))
  parts-two (u ∷ views) zero zero v w apart at there = absurd (apart refl)
  parts-two (u ∷ views) zero (suc other) v w apart at there =
      let same = ap (λ (x : View E). x.parts) (some-injective u v at) in let rest = parts-at views other w there in omega arith
  parts-two (u ∷ views) (suc place) zero v w apart at there =
      let same = ap (λ (x : View E). x.parts) (some-injective u w there) in let rest = parts-at views place v at in omega arith
  parts-two (u ∷ views) (suc place) (suc other) v w apart at there =
      let rest = parts-two views place other v w (λ e. apart (ap suc e)) at there in omega arith

  -- ## What they have seen
  pub fit-set : (log : List E) (views : List (View E)) (place : ℕ) (w : View E) → AllFit log views → Fits log w → AllFit log (set views place w)
  fit-set log views place w all here other v at =
      ⊎_elim (λ (t : (other ≡ place) × (w ≡ v)). subst (Fits log) t.1 here)
      (λ (t : (other ≢ place) × (get_elem? views other ≡ some v)). all other v t.1) (at_set views place other w v at)

  pub fit-snoc : (log : List E) (views : List (View E)) (w : View E) → AllFit log views → Fits log w → AllFit log (views ++ w ∷ [])
  fit-snoc log views w all here other v at =
      ⊎_elim (λ (there : get_elem? views other ≡ some v). all other v there) (λ (same : w ≡ v). subst (Fits log) same here) (at_snoc views w v other at)

  pub fit-longer : (log more : List E) (views : List (View E)) → IsPrefix log more → AllFit log views → AllFit more views
  fit-longer log more views begins all place v at =
      let fits = all place v at in
      record { seen = prefix_trans v.seen log more fits.seen begins; told = prefix_trans v.told log more fits.told begins; unseated = fits.unseated }

  -- ## Who rests
  pub rest-set : (views : List (View E)) (place : ℕ) (w : View E) → AllRest views → w.stage ≡ rests → AllRest (set views place w)
  rest-set views place w all here other v at =
      ⊎_elim (λ (t : (other ≡ place) × (w ≡ v)). subst (λ (u : View E). u.stage ≡ rests) t.1 here)
      (λ (t : (other ≢ place) × (get_elem? views other ≡ some v)). all other v t.1) (at_set views place other w v at)

  pub rest-snoc : (views : List (View E)) (w : View E) → AllRest views → w.stage ≡ rests → AllRest (views ++ w ∷ [])
  rest-snoc views w all here other v at =
      ⊎_elim (λ (there : get_elem? views other ≡ some v). all other v there)
      (λ (same : w ≡ v). subst (λ (u : View E). u.stage ≡ rests) same here) (at_snoc views w v other at)

  -- The holder's own view may change as it likes.
  pub others-set_holder : (views : List (View E)) (holder : ℕ) (w : View E) → OthersRest holder views → OthersRest holder (set views holder w)
  others-set_holder views holder w others other v apart at = others other v apart (sym (set_else views holder other w apart) ∙ at)

  pub others-set : (views : List (View E)) (holder place : ℕ) (w : View E) → OthersRest holder views → w.stage ≡ rests → OthersRest holder (set views place w)
  others-set views holder place w others here other v apart at =
      ⊎_elim (λ (t : (other ≡ place) × (w ≡ v)). subst (λ (u : View E). u.stage ≡ rests) t.1 here)
      (λ (t : (other ≢ place) × (get_elem? views other ≡ some v)). others other v apart t.1) (at_set views place other w v at)

  pub others-snoc : (views : List (View E)) (holder : ℕ) (w : View E) → OthersRest holder views → w.stage ≡ rests → OthersRest holder (views ++ w ∷ [])
  others-snoc views holder w others here other v apart at =
      ⊎_elim (λ (there : get_elem? views other ≡ some v). others other v apart there)
      (λ (same : w ≡ v). subst (λ (u : View E). u.stage ≡ rests) same here) (at_snoc views w v other at)

  -- Where the holder rests too, every seat rests.
  pub all_rest : (views : List (View E)) (holder : ℕ) (w : View E) → OthersRest holder views → w.stage ≡ rests → AllRest (set views holder w)
  all_rest views holder w others here other v at =
      ⊎_elim (λ (t : (other ≡ holder) × (w ≡ v)). subst (λ (u : View E). u.stage ≡ rests) t.1 here)
      (λ (t : (other ≢ holder) × (get_elem? views other ≡ some v)). others other v t.0 t.1) (at_set views holder other w v at)

  -- A view's place is within the list.
  pub within : (views : List (View E)) (place : ℕ) (v : View E) → get_elem? views place ≡ some v → place < length views
  within [] place v at = absurd (some-ne-none v (sym at))
  within (u ∷ views) zero v at = omega arith
  within (u ∷ views) (suc place) v at = let rest = within views place v at in omega arith

  -- Of a list with one view all places have it.
  pub only : (v : View E) (P : View E → Type 0) → P v → (place : ℕ) (u : View E) → get_elem? (v ∷ []) place ≡ some u → P u
  only v P here zero u at = subst P (some-injective v u at) here
  only v P here (suc place) u at = absurd (some-ne-none u (sym at))
