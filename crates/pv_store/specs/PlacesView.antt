-- What the entries of the index say.
use Rattle.std.specs.Prelude.{List, map}
use Rattle.pv_base.specs.declared.catalog.ItemId.{ItemId}
use Rattle.pv_base.specs.declared.txn.TxnId.{TxnId}
use Rattle.pv_store.specs.Kept.{Places}
use Rattle.pv_store.specs.StandingHere.{StandingHere, places_in}

-- what the index says by transaction: the items that have a place, and those whose values name it
pub record Index : Type 0 where
  pub places : Places
  pub touched : Places

-- the entries, as some of their items by transaction
abbrev pub items_by : {X : Type 0} → (X → List ItemId) → List (TxnId × X) → Places
items_by items entries = map (λ entry. (entry.0, map (λ item. item.0) (items entry.1))) entries

-- the entries, as the items with a place by transaction
abbrev pub places_of : List (TxnId × StandingHere) → Places
places_of entries = items_by places_in entries

-- the entries, as the items whose values name it by transaction
abbrev pub touched_of : List (TxnId × StandingHere) → Places
touched_of entries = items_by (λ (standing : StandingHere). standing.named) entries
