-- The items of a site, one after another.
use Rattle.std.proofs.Common.{◌≡◌, ℕ, zero, suc, ◌+◌, ◌<◌, Bool, true, false, Some, List, [], ◌∷◌, ◌++◌, drop, length, add-one, refl, sym, ap, ◌∙◌, append_assoc, arith}
use Rattle.std.specs.Prelude.{◌==◌, slice_get, flat_map, if◌then◌else◌}
use Rattle.pv_base.specs.Catalog.{Item}
use Rattle.pv_protocol.specs.Outcome.{items_from}

-- There is an item at each place that is within them.
pub declared-at : (items : List Item) (n : ℕ) → n < length items → (item : Item) × (slice_get items n ≡ Some item)
declared-at [] n within = absurd (omega arith)
declared-at (item ∷ items) zero within = (item, refl)
declared-at (item ∷ items) (suc n) within = declared-at items n (omega arith)

-- An item stands before those behind it.
left-at : (items : List Item) (n : ℕ) (item : Item) → slice_get items n ≡ Some item → drop n items ≡ item ∷ drop (n + 1) items
left-at [] n item at = absurd (cc)
left-at (first ∷ items) zero item at = let same : first ≡ item = cc in ap (λ it. it ∷ items) same
left-at (first ∷ items) (suc n) item at = let rest = left-at items n item at in rw add-one (rw add-one at rest)

module _ (text_of : ℕ → List ℕ) (site : ℕ) (items : List Item) (n : ℕ) where
  by_test : (test : Bool) (rest : List ℕ) → flat_map text_of (if test then n ∷ rest else rest) ≡ (if test then text_of n else []) ++ flat_map text_of rest
  by_test true rest = refl
  by_test false rest = refl

  -- The text so far and that of the items left are the text of all, also after one more item, which has a text if it is the site's.
  pub one-more-item : (all text next : List ℕ) (item : Item) → slice_get items n ≡ Some item
      → all ≡ text ++ flat_map text_of (items_from site n (drop n items))
      → next ≡ text ++ (if item.site == site then text_of n else [])
      → all ≡ next ++ flat_map text_of (items_from site (n + 1) (drop (n + 1) items))
  one-more-item all text next item at before more =
      let rest = items_from site (n + 1) (drop (n + 1) items) in
      before
      ∙ ap (λ left. text ++ flat_map text_of (items_from site n left)) (left-at items n item at)
      ∙ ap (λ part. text ++ part) (by_test (item.site == site) rest)
      ∙ sym (append_assoc text (if item.site == site then text_of n else []) (flat_map text_of rest))
      ∙ ap (λ front. front ++ flat_map text_of rest) (sym more)
