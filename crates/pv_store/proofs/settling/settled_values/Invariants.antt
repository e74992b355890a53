-- The items so far are settled.
use Rattle.std.proofs.Common.{◌≡◌, ℕ, List, map, take}
use Rattle.std.specs.List.{flat_map}
use Rattle.pv_base.specs.Catalog.{Declared}
use Rattle.pv_base.specs.declared.catalog.ItemId.{ItemId}
use Rattle.pv_format.specs.Record.{Record}
use Rattle.pv_store.specs.Held.{AreShown}
use Rattle.pv_store.specs.Settling.{settled_at}
use Rattle.pv_store.proofs.settling.settled_values.Given as goal

abbrev pub invariant-loop-item : goal.invariant-loop-item
invariant-loop-item l = (catalog : Declared) (site : ℕ) (records : List Record) → AreShown catalog site records records l.values
    → l.settled.items ≡ flat_map (settled_at catalog site records l.txn l.commits) (map (λ (item : ItemId). item.0) (take l.item-index l.items))
