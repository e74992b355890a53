use Rattle.pv_base.specs.declared.limits.TheConstants.{HELD_NAMES}
use Rattle.pv_cases.proofs.PolyvalueFacts.{polyvalue-within}
use Rattle.pv_poly.specs.HeldCases.{held_cases}
use Rattle.pv_poly.proofs.poly.Poly.from_table.Goals as goal

pub invariant_of-result : goal.invariant_of-result
invariant_of-result g c =
    polyvalue-within HELD_NAMES c.in_ok-tree.tree (held_cases c.in_ok-of_tree.field-0) c.args.txns.now c.in_ok-of_tree.ensures c.in_ok-tree.ensures.canonical
    c.in_ok-tree.ensures.names c.requires.few

pub returns-clause-polyvalue : goal.returns-clause-polyvalue
returns-clause-polyvalue g c =
    polyvalue-within HELD_NAMES c.in_ok-tree.tree (held_cases c.in_ok-of_tree.field-0) c.args.txns.now c.in_ok-of_tree.ensures c.in_ok-tree.ensures.canonical
    c.in_ok-tree.ensures.names c.requires.few
