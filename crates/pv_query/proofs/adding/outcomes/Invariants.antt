-- The list has what the values so far name, and these are polyvalues.
use Rattle.std.proofs.Common.{[], take}
use Rattle.std.specs.Prelude.{All}
use Rattle.pv_base.specs.Polyvalue.{names, IsPolyvalue}
use Rattle.pv_base.specs.declared.limits.TheConstants.{HELD_NAMES}
use Rattle.pv_cases.specs.Names.{Adds}
use Rattle.pv_query.specs.AllSums.{together}
use Rattle.pv_query.proofs.adding.outcomes.Given as goal

abbrev pub invariant-loop-value : goal.invariant-loop-value
invariant-loop-value l = record {
  added : Adds (names (together (take l.value-index l.values))) [] l.txns.items;
  polyvalues : All (IsPolyvalue HELD_NAMES) (take l.value-index l.values);
}
