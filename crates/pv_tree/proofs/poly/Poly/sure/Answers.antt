-- One case names nothing.
use Rattle.pv_base.specs.declared.limits.TheConstants.{HELD_NAMES}
use Rattle.pv_cases.proofs.CountLemmas.{sure-polyvalue}
use Rattle.pv_tree.proofs.poly.Poly.sure.Goals as goal

pub invariant_of-result : goal.invariant_of-result
invariant_of-result g c = sure-polyvalue HELD_NAMES c.args.value c.sure.ensures

pub returns-clause-polyvalue : goal.returns-clause-polyvalue
returns-clause-polyvalue g c = sure-polyvalue HELD_NAMES c.args.value c.sure.ensures
