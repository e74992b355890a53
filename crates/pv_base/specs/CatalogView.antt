-- What a catalog's fields say.
use Rattle.std.specs.Prelude.{ℕ, ◌<◌, ◌≤◌, List, map, length, All, IsTrue}
use Rattle.std.specs.Global.{Vec}
use Rattle.std.specs.Int.{w64}
use Rattle.std.specs.Int.RustNames.{FitsSigned}
use Rattle.pv_base.specs.declared.catalog.Catalog.TheInside.{Inside}
use Rattle.pv_base.specs.declared.entries.Declaration.{Declaration}
use Rattle.pv_base.specs.declared.limits.TheConstants.{MAX_SITES, MIN_JOURNAL, MAX_JOURNAL, MAX_ITEMS}
use Rattle.pv_base.specs.Catalog.{Item, Declared}
use Rattle.pv_base.specs.Name.{is_name}

-- An entry of the map, as the item that it stands for.
abbrev pub item_of : Vec ℕ × Declaration → Item
item_of entry = record { name = entry.0.items; site = entry.1.site.0; value = entry.1.value }

-- The entries, as items.
abbrev pub items_of : List (Vec ℕ × Declaration) → List Item
items_of entries = map item_of entries

abbrev pub declared_of : Inside → Declared
declared_of inside = record { sites = inside.sites; journal = inside.journal; items = items_of inside.items.entries }

-- The limits of a catalog, that each item is at one of its sites, that its name is one, and that its value has 64 bits.
pub record IsWithinLimits (inside : Inside) : Type 0 where
  pub some_site : 1 ≤ inside.sites
  pub few_sites : inside.sites ≤ MAX_SITES
  pub least_journal : MIN_JOURNAL ≤ inside.journal
  pub most_journal : inside.journal ≤ MAX_JOURNAL
  pub few_items : length inside.items.entries ≤ MAX_ITEMS
  pub homes : All (λ item. item.site < inside.sites) (items_of inside.items.entries)
  pub names : All (λ item. IsTrue (is_name item.name)) (items_of inside.items.entries)
  pub values : All (λ item. FitsSigned w64 item.value) (items_of inside.items.entries)
