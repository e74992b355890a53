-- The catalog: a list of items, each with its name, its site and its declared value.
use Rattle.std.specs.Prelude.{ℕ, ℤ, nat_le, List, [], ◌∷◌, ◌++◌, length, position, Option, Some, None, if◌then◌else◌}
use Rattle.std.specs.Option.{option_map_or}
use Rattle.std.specs.Str.{bytes_eq}
use Rattle.pv_base.specs.declared.catalog.CatalogError.{CatalogError}
use Rattle.pv_base.specs.declared.catalog.CatalogError.TheVariants.{BadName, NameTaken, NoSite, TooMany}
use Rattle.pv_base.specs.declared.limits.TheConstants.{MAX_ITEMS}
use Rattle.pv_base.specs.Name.{is_name}

-- An item as it was declared.
pub record Item : Type 0 where
  pub name : List ℕ
  pub site : ℕ
  pub value : ℤ

-- What a catalog says: the count of sites, the limit of each journal in bytes, and the items in order of declaration.
pub record Declared : Type 0 where
  pub sites : ℕ
  pub journal : ℕ
  pub items : List Item

-- The place of the item of this name.
abbrev pub place_of : List ℕ → List Item → Option ℕ
place_of name items = position (λ item. bytes_eq name item.name) items

-- The catalog with one more item, the last.
abbrev pub with_item : Declared → Item → Declared
with_item declared item = record declared { items = declared.items ++ item ∷ [] }

-- Why a name is refused that the item at this place has.
abbrev pub refusal_of_taken : ℕ → Option CatalogError
refusal_of_taken place = Some (NameTaken (record { 0 = place }))

-- Why an item of a new name is refused at this site.
abbrev pub refusal_of_new : Declared → ℕ → Option CatalogError
refusal_of_new declared site =
    if nat_le declared.sites site then Some NoSite else
    (if nat_le MAX_ITEMS (length declared.items) then Some TooMany else None)

-- Why an addition is refused, the first cause that there is. Out of memory comes after all of these.
abbrev pub refusal : Declared → List ℕ → ℕ → Option CatalogError
refusal declared name site =
    if is_name name
    then option_map_or refusal_of_taken (place_of name declared.items) (refusal_of_new declared site)
    else Some BadName
