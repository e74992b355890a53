-- Items are found by their names.
use Rattle.std.proofs.Common.{◌≡◌, ℕ, ◌≤◌, Bool, true, false, List, [], Option, Some, None, cond, length, get_or, nat_lt, refl, sym, ap, ◌∙◌, arith, pos}
use Rattle.std.specs.List.{position_or_len}
use Rattle.std.specs.Option.{option_map_or}
use Rattle.std.specs.Str.{bytes_eq}
use Rattle.std.proofs.lemmas.Bool.{both_ways}
use Rattle.std.proofs.lemmas.Bool.Decides.{nat_tests}
use Rattle.std.proofs.lemmas.List.Quantifiers.{position-Some}
use Rattle.std.proofs.lemmas.List.Sums.{fails_before_first}
use Rattle.std.proofs.lemmas.Option.{slice_get-get_or}
use Rattle.std.proofs.lemmas.Slice.Eq.{bytes_eq-Decides}
use Rattle.pv_base.specs.Catalog.{Declared, Item, place_of}
use Rattle.pv_protocol.specs.LineText.{name_of}
use Rattle.pv_report.specs.NamesOnlyItems.{HasItem}

no_item : Item
no_item = record { name = []; site = 0; value = pos 0 }

name-at : (catalog : Declared) (n : ℕ) → HasItem catalog n → name_of catalog n ≡ (get_or catalog.items n no_item).name
name-at catalog n has = ap (λ (o : Option Item). option_map_or (λ (item : Item). item.name) o []) (slice_get-get_or catalog.items n no_item has)

-- What is found has the name,
pub found-item : (catalog : Declared) (name : List ℕ) (n : ℕ) → place_of name catalog.items ≡ Some n → HasItem catalog n × (name ≡ name_of catalog n)
found-item catalog name n is =
    let at = position-Some (λ (item : Item). bytes_eq name item.name) catalog.items n no_item is in
    (at.0, (bytes_eq-Decides name (get_or catalog.items n no_item).name).0 at.1 ∙ sym (name-at catalog n at.0))

past : (place many : ℕ) (b : Bool) → nat_lt place many ≡ b → cond b (Some place) None ≡ None → many ≤ place
past place many true is none = absurd (let never : ⊥ = cc in never)
past place many false is none = grind (arith, nat_tests, is)

-- and where nothing is found, no item has it.
pub no-item : (catalog : Declared) (name : List ℕ) (n : ℕ) → place_of name catalog.items ≡ None → HasItem catalog n → name ≡ name_of catalog n → ⊥
no-item catalog name n none has is =
    let behind = past (position_or_len (λ (item : Item). bytes_eq name item.name) catalog.items) (length catalog.items)
    (nat_lt (position_or_len (λ (item : Item). bytes_eq name item.name) catalog.items) (length catalog.items)) refl none in
    let fails = fails_before_first (λ (item : Item). bytes_eq name item.name) catalog.items n no_item (omega (arith, behind, has)) in
    both_ways (bytes_eq name (get_or catalog.items n no_item).name) fails
    ((bytes_eq-Decides name (get_or catalog.items n no_item).name).1 (is ∙ name-at catalog n has))
