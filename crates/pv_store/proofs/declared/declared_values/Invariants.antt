-- The values so far are those of the first items.
use Rattle.std.proofs.Common.{◌≡◌, ◌<◌, ℕ, [], Some, length}
use Rattle.std.specs.Prelude.{slice_get}
use Rattle.pv_store.specs.Held.{value_here}
use Rattle.pv_store.proofs.declared.declared_values.Given as goal

abbrev pub invariant-loop-item : goal.invariant-loop-item
invariant-loop-item l = record {
  all : length l.values.items ≡ l.item;
  each : (k : ℕ) → k < l.item → slice_get l.values.items k ≡ Some (value_here l.catalog l.site.0 [] [] k);
}
