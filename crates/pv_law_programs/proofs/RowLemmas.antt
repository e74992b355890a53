-- Whether rows have an item once is known from their items alone.
use Rattle.std.proofs.Common.{◌≡◌, ℕ, Bool, true, false, cond, List, [], ◌∷◌, refl, sym, ap, ◌∙◌}
use Rattle.std.specs.Prelude.{◌==◌}
use Rattle.pv_model.specs.Items.{lacks, has_once}
use Rattle.pv_model.specs.Meaning.{Row, items_of_rows}

abbrev lacks_item : List ℕ → ℕ → Bool
lacks_item [] n = true
lacks_item (m ∷ items) n = cond (m == n) false (lacks_item items n)

abbrev has_item_once : List ℕ → ℕ → Bool
has_item_once [] n = false
has_item_once (m ∷ items) n = cond (m == n) (lacks_item items n) (has_item_once items n)

lacks-items : (rows : List Row) (n : ℕ) → lacks rows n ≡ lacks_item (items_of_rows rows) n
lacks-items [] n = refl
lacks-items (row ∷ rows) n = ap (λ (b : Bool). cond (row.item == n) false b) (lacks-items rows n)

pub lacks-same : (rows others : List Row) (n : ℕ) → items_of_rows rows ≡ items_of_rows others → lacks rows n ≡ lacks others n
lacks-same rows others n same = lacks-items rows n ∙ ap (λ (items : List ℕ). lacks_item items n) same ∙ sym (lacks-items others n)

has_once-items : (rows : List Row) (n : ℕ) → has_once rows n ≡ has_item_once (items_of_rows rows) n
has_once-items [] n = refl
has_once-items (row ∷ rows) n = λ i. cond (row.item == n) (lacks-items rows n i) (has_once-items rows n i)

pub has_once-same : (rows others : List Row) (n : ℕ) → items_of_rows rows ≡ items_of_rows others → has_once rows n ≡ has_once others n
has_once-same rows others n same = has_once-items rows n ∙ ap (λ (items : List ℕ). has_item_once items n) same ∙ sym (has_once-items others n)
