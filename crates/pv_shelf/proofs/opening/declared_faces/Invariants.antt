-- The items so far have their faces.
use Rattle.std.proofs.Common.{◌≡◌, ◌++◌, drop}
use Rattle.pv_shelf.specs.Opening.{declared_faces}
use Rattle.pv_shelf.proofs.opening.declared_faces.Given as goal

abbrev pub invariant-loop-item : goal.invariant-loop-item
invariant-loop-item l = l.faces.items ++ declared_faces l.site.0 (drop l.item l.catalog.items) ≡ declared_faces l.site.0 l.catalog.items
