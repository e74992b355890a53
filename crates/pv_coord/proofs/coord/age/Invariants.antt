use Rattle.std.proofs.Common.{◌≡◌}
use Rattle.pv_coord.proofs.Ageing.{changed_to}
use Rattle.pv_coord.proofs.Expiries.{older_one}
use Rattle.pv_coord.proofs.coord.age.Given as goal

abbrev pub invariant-loop-entry : goal.invariant-loop-entry
invariant-loop-entry l = l.entries ≡ changed_to older_one l.entry-index l.fn.entries
