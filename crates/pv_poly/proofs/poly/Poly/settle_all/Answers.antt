-- One value names nothing.
use Rattle.pv_base.specs.declared.limits.TheConstants.{HELD_NAMES}
use Rattle.pv_cases.proofs.CountLemmas.{sure-polyvalue}
use Rattle.pv_poly.proofs.poly.Poly.settle_all.Goals as goal

pub invariant_of-result : goal.invariant_of-result
invariant_of-result g c = sure-polyvalue HELD_NAMES c.in-Some.value (c.sure.ensures)

pub returns-in-Some-clause-polyvalue : goal.returns-in-Some-clause-polyvalue
returns-in-Some-clause-polyvalue g c = sure-polyvalue HELD_NAMES c.in-Some.value (c.sure.ensures)
