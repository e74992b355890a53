-- A catalog that has grown.
use Rattle.std.specs.Prelude.{◌≡◌, ◌≤◌, List, ◌++◌}
use Rattle.pv_base.specs.Catalog.{Declared, Item}

-- The later catalog has the same sites, the same items at the same places and perhaps more behind them, and no lower a limit of journals.
pub record HasGrown (catalog later : Declared) : Type 0 where
  pub sites : later.sites ≡ catalog.sites
  pub more : List Item
  pub items : later.items ≡ catalog.items ++ more
  pub limit : catalog.journal ≤ later.journal
