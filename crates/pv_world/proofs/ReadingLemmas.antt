-- The lines and the total of items, one after another.
use Rattle.std.proofs.Common.{◌≡◌, ℕ, zero, suc, ◌+◌, ◌<◌, ◌≤◌, Some, List, [], ◌∷◌, drop, length, add-one, refl, ap, ◌∙◌, arith}
use Rattle.std.specs.Prelude.{ℤ, slice_get}
use Rattle.pv_base.specs.Catalog.{Item}
use Rattle.pv_base.specs.Polyvalue.{Case}
use Rattle.pv_protocol.specs.Report.{Reading, item_line, item_lines, reading_of, readings_from, total_from}
use Rattle.pv_protocol.specs.State.{Setup}
use Rattle.pv_protocol.specs.World.{World}

-- One of so many items is declared, and stands before those behind it.
pub record IsDeclaredAt (items : List Item) (n : ℕ) : Type 0 where
  pub item : Item
  pub found : slice_get items n ≡ Some item
  pub left : drop n items ≡ item ∷ drop (n + 1) items

pub declared-at : (items : List Item) (n : ℕ) → n < length items → IsDeclaredAt items n
declared-at [] n within = absurd (omega arith)
declared-at (item ∷ items) zero within = record { item = item; found = refl; left = refl }
declared-at (item ∷ items) (suc n) within =
    let rest = declared-at items n (omega arith) in
    record { item = rest.item; found = rest.found; left = rw add-one (rw add-one at rest.left) }

none-left : (items : List Item) (n : ℕ) → length items ≤ n → drop n items ≡ []
none-left [] zero past = refl
none-left [] (suc n) past = refl
none-left (item ∷ items) zero past = absurd (omega arith)
none-left (item ∷ items) (suc n) past = none-left items n (omega arith)

module _ (setup : Setup) (world : World) (items : List Item) (n : ℕ) where
  module _ (at : IsDeclaredAt items n) where
    -- The line of an item comes before those of the items behind it.
    pub next-line : item_lines n (readings_from setup world n (drop n items))
        ≡ item_line n (reading_of setup world n at.item) ∷ item_lines (n + 1) (readings_from setup world (n + 1) (drop (n + 1) items))
    next-line = ap (λ left. item_lines n (readings_from setup world n left)) at.left

    -- An item is read before those behind it.
    pub next-read : (limit : ℕ) (values : List (List (Case ℤ))) (reading : Reading) → reading_of setup world n at.item ≡ reading
        → total_from limit values n (readings_from setup world n (drop n items)) ≡ total_from limit values n (reading ∷ readings_from setup world (n + 1) (drop (n + 1) items))
    next-read limit values reading is =
        ap (λ left. total_from limit values n (readings_from setup world n left)) at.left
        ∙ ap (λ first. total_from limit values n (first ∷ readings_from setup world (n + 1) (drop (n + 1) items))) is

  -- Behind the last item there is no line, and nothing is read.
  pub last-line : length items ≤ n → item_lines n (readings_from setup world n (drop n items)) ≡ []
  last-line past = ap (λ left. item_lines n (readings_from setup world n left)) (none-left items n past)

  pub last-read : (limit : ℕ) (values : List (List (Case ℤ))) → length items ≤ n → total_from limit values n (readings_from setup world n (drop n items)) ≡ total_from limit values n []
  last-read limit values past = ap (λ left. total_from limit values n (readings_from setup world n left)) (none-left items n past)
