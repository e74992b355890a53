-- What is read so far.
use Rattle.std.proofs.Common.{◌≡◌, Some, map, take}
use Rattle.std.specs.List.{All, slice_get}
use Rattle.pv_model.specs.Alternatives.{Read}
use Rattle.pv_audit.proofs.values.reads_at.Given as goal

abbrev pub invariant-loop-item : goal.invariant-loop-item
invariant-loop-item l = (map (λ (read : Read). read.item) l.reads.items ≡ take l.item-index l.items) × All (λ (read : Read). slice_get l.values read.item ≡ Some read.cases) l.reads.items
