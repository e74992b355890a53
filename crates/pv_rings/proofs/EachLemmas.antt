-- Two lists of which each place is so related.
use Rattle.std.proofs.Common.{◌≡◌, ◌≢◌, ℕ, ◌<◌, List, length, get_or, set, refl, sym, ◌∙◌, subst, ⊎_elim, arith, length-set, get_or-set_same, get_or-set_other}
use Rattle.std.proofs.lemmas.Option.{slice_get_cases, slice_get-get_or, get_or_from_slice_get}
use mathlib.Core.Logic.{dite}
use native.Mathlib.Decide.{ℕ_discrete}
use Rattle.pv_rings.specs.Rings.{Each}

-- What stands at a place of a list doesn't depend on what stands for no element.
pub get_or-any : {A : Type 0} (xs : List A) (k : ℕ) (d e : A) → k < length xs → get_or xs k e ≡ get_or xs k d
get_or-any xs k d e within = get_or_from_slice_get xs k (get_or xs k d) e (slice_get-get_or xs k d within)

pub each-self : {A : Type 0} (R : ℕ → A → A → Type 0) (xs : List A) → ((k : ℕ) (x : A) → k < length xs → R k x x) → Each R xs xs
each-self R xs same =
    (refl, λ k d e within. subst (λ v. R k (get_or xs k d) v) (sym (get_or-any xs k d e within)) (same k (get_or xs k d) within))

pub each-weaker : {A B : Type 0} (R S : ℕ → A → B → Type 0) (xs : List A) (ys : List B) → ((k : ℕ) (x : A) (y : B) → k < length xs → R k x y → S k x y)
    → Each R xs ys → Each S xs ys
each-weaker R S xs ys thus each = (each.0, λ k d e within. thus k (get_or xs k d) (get_or ys k e) within (each.1 k d e within))

pub each-trans : {A B C : Type 0} (R : ℕ → A → B → Type 0) (S : ℕ → B → C → Type 0) (T : ℕ → A → C → Type 0) (xs : List A) (ys : List B) (zs : List C)
    → ((k : ℕ) (x : A) (y : B) (z : C) → k < length xs → R k x y → S k y z → T k x z) → Each R xs ys → Each S ys zs → Each T xs zs
each-trans R S T xs ys zs thus one other = (
  one.0 ∙ other.0,
  λ k d e within. let within' : k < length ys = subst (λ n. k < n) one.0 within in
      ⊎_elim (λ found. let y = found.0 in thus k (get_or xs k d) (get_or ys k y) (get_or zs k e) within (one.1 k d y within) (other.1 k y e within'))
      (λ past. let over = past.0 in absurd (omega arith))
      ((slice_get_cases ys k).1),
)

-- One place is changed in the second list.
module _ {A : Type 0} (R S : ℕ → A → A → Type 0) (xs ys : List A) (at : ℕ) (y : A) where
  pub each-set : Each R xs ys → at < length xs → ((d e : A) → R at (get_or xs at d) (get_or ys at e) → S at (get_or xs at d) y)
      → ((k : ℕ) (x z : A) → k ≢ at → R k x z → S k x z) → Each S xs (set ys at y)
  each-set each within here there = (
    each.0 ∙ sym (length-set ys at y),
    λ k d e less. dite (ℕ_discrete k at)
        (λ is. subst (λ (j : ℕ). S j (get_or xs j d) (get_or (set ys at y) j e)) (sym is)
        (subst (λ (v : A). S at (get_or xs at d) v) (sym (get_or-set_same ys at y e (subst (λ (n : ℕ). at < n) each.0 within)))
        (here d e (each.1 at d e within))))
        (λ isnt. subst (λ (v : A). S k (get_or xs k d) v) (sym (get_or-set_other ys at k y e isnt))
        (there k (get_or xs k d) (get_or ys k e) isnt (each.1 k d e less))),
  )
