-- What stands at a place of a list, or of a row.
use Rattle.std.proofs.Common.{◌≡◌, ◌≢◌, ℕ, ◌<◌, Some, List, [], ◌∷◌, ◌++◌, length, get_or, set, refl, sym, ◌∙◌, ap, ⊎_elim, arith}
use Rattle.std.specs.Prelude.{Vec, slice_get}
use Rattle.std.specs.declared.alloc.Global.{Global}
use Rattle.std.proofs.lemmas.List.{get_or_append_left, get_or_push, length_push, length-append}
use Rattle.std.proofs.lemmas.Option.{slice_get_cases, slice_get-get_or}
use Rattle.pv_rings.proofs.EachLemmas.{each-self, each-set, get_or-any}
use Rattle.pv_links.specs.Rows.{AddsTo}

module _ {A : Type 0} where
  -- what stands at a place
  pub element_at : (xs : List A) (k : ℕ) → k < length xs → A
  element_at xs k less = ⊎_elim (λ found. found.0) (λ past. let over = past.0 in absurd (omega arith)) ((slice_get_cases xs k).1)

  pub get-append-left : (xs ys : List A) (k : ℕ) → k < length xs → slice_get (xs ++ ys) k ≡ slice_get xs k
  get-append-left xs ys k less =
      let d = element_at xs k less in
      let long = length-append xs ys in
      slice_get-get_or (xs ++ ys) k d (omega arith) ∙ ap (λ x. Some x) (get_or_append_left xs ys d k less) ∙ sym (slice_get-get_or xs k d less)

  pub get-push : (xs : List A) (x : A) (k : ℕ) → k ≡ length xs → slice_get (xs ++ x ∷ []) k ≡ Some x
  get-push xs x k is =
      let long = length_push xs x in
      slice_get-get_or (xs ++ x ∷ []) k x (omega arith) ∙ ap (λ y. Some y) (get_or_push xs x x k (sym is))

  -- One is added to one row.
  pub adds-to : (rows : List (Vec A Global)) (row : ℕ) (one : A) (before after : Vec A Global) → row < length rows → before ≡ get_or rows row before
      → after.items ≡ before.items ++ one ∷ [] → AddsTo row one rows (set rows row after)
  adds-to rows row one before after within there is =
      each-set (λ k one other. other ≡ one) (λ k x y. (k ≡ row → y.items ≡ x.items ++ one ∷ []) × (k ≢ row → y.items ≡ x.items)) rows rows row after
      (each-self (λ k one other. other ≡ one) rows (λ k x less. refl)) within
      (λ d e same.
      (λ k. is ∙ ap (λ (v : Vec A Global). v.items ++ one ∷ []) (there ∙ get_or-any rows row d before within), λ isnt. absurd (isnt refl)))
      (λ k x z isnt same. (λ k. absurd (isnt k), λ other. ap (λ (v : Vec A Global). v.items) same))
