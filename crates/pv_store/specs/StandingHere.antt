-- The items that stand at one transaction of the index.
use Rattle.std.specs.Prelude.{ℕ, ◌==◌, ◌++◌, Bool, List}
use Rattle.std.specs.List.{list_any}
use Rattle.pv_base.specs.declared.catalog.ItemId.{ItemId}

-- the items whose values name the transaction, and those that have a place beside them
pub record StandingHere : Type 0 where
  pub named : List ItemId
  pub others : List ItemId

-- all that have a place
abbrev pub places_in : StandingHere → List ItemId
places_in standing = standing.named ++ standing.others

-- The item is one of them.
abbrev pub is_one_of : ℕ → List ItemId → Bool
is_one_of item items = list_any (λ other. item == other.0) items
