-- The values of the effects so far.
use Rattle.std.proofs.Common.{◌≡◌, take}
use Rattle.pv_split.specs.Columns.{values_in_row}
use Rattle.pv_split.proofs.writes.values_in_row.Given as goal

abbrev pub invariant-loop-effect : goal.invariant-loop-effect
invariant-loop-effect l = l.values.items ≡ values_in_row l.index (take l.effect-index l.effects)
