-- Places of lists, and of two lists of which each place is so related.
use Rattle.std.proofs.Common.{◌≡◌, ℕ, ◌+◌, ◌<◌, List, [], ◌∷◌, ◌++◌, All, length, get_or, sym, ◌∙◌, ap, subst, ⊎_elim, arith}
use Rattle.std.proofs.Math.Seq.{get_or-append_seam}
use Rattle.std.proofs.lemmas.List.{get_or_append_left, get_or_push, length-append, length_push}
use Rattle.std.proofs.lemmas.Option.{slice_get_cases}
use mathlib.Core.Logic.{dite}
use native.Mathlib.Decide.{ℕ_discrete}
use Rattle.pv_rings.specs.Rings.{Each}

-- A list that has a place has an element, which stands for none.
pub at-place : {A : Type 0} {P : Type 0} (xs : List A) (k : ℕ) → k < length xs → ((any : A) → P) → P
at-place xs k within thus = ⊎_elim (λ found. thus found.0) (λ out. let past = out.0 in absurd (omega (arith, past, within))) ((slice_get_cases xs k).1)

-- What is so of all is so of one among them.
pub all-at : {A : Type 0} (P : A → Type 0) (all front : List A) (one : A) (rest : List A) → front ++ one ∷ rest ≡ all → All P all → P one
all-at {A} P all front one rest is each =
    subst P (subst (λ (l : List A). get_or l (length front) one ≡ one) is (get_or-append_seam front one rest one))
    (each (length front) one (subst (λ (l : List A). length front < length l) is (let long = length-append front (one ∷ rest) in omega (arith, long))))

-- The place of one among them.
pub at-front : {A : Type 0} (all front : List A) (one : A) (rest : List A) → front ++ one ∷ rest ≡ all
    → (length front < length all) × (one ≡ get_or all (length front) one)
at-front {A} all front one rest is = (
  subst (λ (l : List A). length front < length l) is (let long = length-append front (one ∷ rest) in omega (arith, long)),
  sym (subst (λ (l : List A). get_or l (length front) one ≡ one) is (get_or-append_seam front one rest one)),
)

pub each-none : {A B : Type 0} (R : ℕ → A → B → Type 0) (ys : List B) → ys ≡ [] → Each R [] ys
each-none {A} {B} R ys none = (ap (λ (l : List B). length l) (sym none), λ k x y less. absurd (omega (arith, less)))

-- One more stands in both.
pub each-push : {A B : Type 0} (R : A → B → Type 0) (xs : List A) (ys : List B) (x : A) (y : B) → Each (λ k. R) xs ys → R x y
    → Each (λ k. R) (xs ++ x ∷ []) (ys ++ y ∷ [])
each-push {A} {B} R xs ys x y each one = (
  length_push xs x ∙ ap (λ (n : ℕ). n + 1) each.0 ∙ sym (length_push ys y),
  λ k d e less. dite (ℕ_discrete k (length xs))
      (λ is. subst (λ (v : A). R v (get_or (ys ++ y ∷ []) k e)) (sym (get_or_push xs x d k (sym is)))
      (subst (λ (v : B). R x v) (sym (get_or_push ys y e k (sym (is ∙ each.0)))) one))
      (λ isnt. let within : k < length xs = let long = length_push xs x in omega (arith, less, isnt, long) in
      subst (λ (v : A). R v (get_or (ys ++ y ∷ []) k e)) (sym (get_or_append_left xs (x ∷ []) d k within))
      (subst (λ (v : B). R (get_or xs k d) v) (sym (get_or_append_left ys (y ∷ []) e k (subst (λ (n : ℕ). k < n) each.0 within))) (each.1 k d e within))),
)
