-- Last elements of lists, and of two lists of which each place is so related.
use Rattle.std.proofs.Common.{◌≡◌, ℕ, ◌+◌, ◌<◌, List, [], ◌∷◌, ◌++◌, length, get_or, refl, sym, ◌∙◌, ap, subst, ⊎_elim, arith, append_assoc}
use Rattle.std.proofs.lemmas.List.{get_or_append_left, get_or_push, length_push}
use Rattle.std.proofs.lemmas.Option.{slice_get_cases}
use Rattle.std.proofs.Math.Seq.{get_or-append_seam}
use mathlib.Core.List.{IsPrefix}
use mathlib.Core.Logic.{dite}
use native.Mathlib.Decide.{ℕ_discrete}
use Rattle.pv_rings.specs.Rings.{Each}

-- what stands at a place
pub element_at : {A : Type 0} (xs : List A) (k : ℕ) → k < length xs → A
element_at xs k less = ⊎_elim (λ found. found.0) (λ past. let over = past.0 in absurd (omega arith)) ((slice_get_cases xs k).1)

-- What is left of a beginning without its last element.
pub begins-less : {A : Type 0} (all before after : List A) (last : A) → IsPrefix before all → before ≡ after ++ last ∷ []
    → IsPrefix after all × (length before ≡ length after + 1) × ((d : A) → get_or all (length after) d ≡ last)
begins-less all before after last begins is =
    let rest = begins.0 in
    let whole : after ++ last ∷ rest ≡ all = sym (append_assoc after (last ∷ []) rest) ∙ subst (λ l. l ++ rest ≡ all) is begins.1 in (
      (last ∷ rest, whole),
      ap (λ l. length l) is ∙ length_push after last,
      λ d. subst (λ l. get_or l (length after) d ≡ last) whole (get_or-append_seam after last rest d),
    )

module _ {A B : Type 0} (R : A → B → Type 0) (xs : List A) (ys : List B) (x : A) (y : B) where
  -- One more stands in both.
  pub each-push : Each (λ _. R) xs ys → R x y → Each (λ _. R) (xs ++ x ∷ []) (ys ++ y ∷ [])
  each-push each one = (
    length_push xs x ∙ ap (λ (n : ℕ). n + 1) each.0 ∙ sym (length_push ys y),
    λ k d e less. dite (ℕ_discrete k (length xs))
        (λ is. subst (λ (v : A). R v (get_or (ys ++ y ∷ []) k e)) (sym (get_or_push xs x d k (sym is)))
        (subst (λ (v : B). R x v) (sym (get_or_push ys y e k (sym (is ∙ each.0)))) one))
        (λ isnt. let within : k < length xs = let long = length_push xs x in omega arith in
        subst (λ (v : A). R v (get_or (ys ++ y ∷ []) k e)) (sym (get_or_append_left xs (x ∷ []) d k within))
        (subst (λ (v : B). R (get_or xs k d) v) (sym (get_or_append_left ys (y ∷ []) e k (subst (λ (n : ℕ). k < n) each.0 within))) (each.1 k d e within))),
  )

  -- One fewer.
  pub each-pop : Each (λ _. R) (xs ++ x ∷ []) (ys ++ y ∷ []) → Each (λ _. R) xs ys × R x y
  each-pop each =
      let same = each.0 in
      let long = length_push xs x in
      let other = length_push ys y in
      let short : length xs ≡ length ys = omega arith in (
        (
          short,
          λ k d e less. subst (λ (v : A). R v (get_or ys k e)) (get_or_append_left xs (x ∷ []) d k less)
              (subst (λ (v : B). R (get_or (xs ++ x ∷ []) k d) v) (get_or_append_left ys (y ∷ []) e k (subst (λ (n : ℕ). k < n) short less)) (each.1 k d e (omega arith))),
        ),
        subst (λ (v : A). R v y) (get_or_push xs x x (length xs) refl)
            (subst (λ (v : B). R (get_or (xs ++ x ∷ []) (length xs) x) v) (get_or_push ys y y (length xs) (sym short)) (each.1 (length xs) x y (omega arith))),
      )
