-- One value names nothing, and what is settled names no more than before.
use Rattle.std.proofs.Common.{sym, subst}
use Rattle.pv_base.specs.Polyvalue.{IsPolyvalue}
use Rattle.pv_base.specs.declared.limits.TheConstants.{HELD_NAMES}
use Rattle.pv_cases.proofs.CountLemmas.{sure-polyvalue}
use Rattle.pv_tree.proofs.PolyLemmas.{settles-polyvalue}
use Rattle.pv_tree.proofs.poly.Poly.settle_all.Goals as goal

pub invariant_of-result : goal.invariant_of-result
invariant_of-result g c = sure-polyvalue HELD_NAMES c.in-Some.value c.sure.ensures

pub returns-in-Some-clause-polyvalue : goal.returns-in-Some-clause-polyvalue
returns-in-Some-clause-polyvalue g c = sure-polyvalue HELD_NAMES c.in-Some.value c.sure.ensures

pub invariant_of-result-2 : goal.invariant_of-result-2
invariant_of-result-2 g c =
    subst (IsPolyvalue HELD_NAMES) (sym c.in_ok-of_nodes.ensures)
    (settles-polyvalue HELD_NAMES c.args.literals.now c.self.inside.tree c.settle.new.target c.in_ok-root.root c.self.invariant.few c.in_ok-root.ensures.settled)

pub returns-clause-polyvalue : goal.returns-clause-polyvalue
returns-clause-polyvalue g c =
    subst (IsPolyvalue HELD_NAMES) (sym c.in_ok-of_nodes.ensures)
    (settles-polyvalue HELD_NAMES c.args.literals.now c.self.inside.tree c.settle.new.target c.in_ok-root.root c.self.invariant.few c.in_ok-root.ensures.settled)
