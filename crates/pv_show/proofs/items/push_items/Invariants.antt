-- The lines so far, and those of the items left, are all.
use Rattle.std.proofs.Common.{◌≡◌, ◌++◌, drop}
use Rattle.std.specs.Prelude.{flat_map}
use Rattle.pv_protocol.specs.Outcome.{items_from}
use Rattle.pv_show.specs.SiteText.{item_text, items_text}
use Rattle.pv_show.proofs.items.push_items.Given as goal

abbrev pub invariant-loop-number : goal.invariant-loop-number
invariant-loop-number l =
    l.fn.text.items ++ items_text l.catalog l.site.0 l.store.records
    ≡ l.text.items ++ flat_map (item_text l.catalog l.store.records) (items_from l.site.0 l.number (drop l.number l.catalog.items))
