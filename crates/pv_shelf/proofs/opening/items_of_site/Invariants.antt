-- The items so far are listed.
use Rattle.std.proofs.Common.{◌≡◌, ◌++◌, drop}
use Rattle.pv_protocol.specs.Outcome.{items_from}
use Rattle.pv_shelf.proofs.opening.items_of_site.Given as goal

abbrev pub invariant-loop-item : goal.invariant-loop-item
invariant-loop-item l = l.items.items ++ items_from l.site.0 l.item (drop l.item l.catalog.items) ≡ items_from l.site.0 0 l.catalog.items
