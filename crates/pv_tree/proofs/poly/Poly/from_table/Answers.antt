-- What names only what stands in a short list is a polyvalue.
use Rattle.pv_base.specs.declared.limits.TheConstants.{HELD_NAMES}
use Rattle.pv_cases.proofs.PolyvalueFacts.{polyvalue-within}
use Rattle.pv_tree.specs.Meanings.{cases_at}
use Rattle.pv_tree.proofs.poly.Poly.from_table.Goals as goal

pub invariant_of-result : goal.invariant_of-result
invariant_of-result g c =
    let table = c.in_ok-root.ensures.table in
    polyvalue-within HELD_NAMES (cases_at c.from_table.new.self c.in_ok-root.root) c.in_ok-of_nodes.field-0 c.args.txns.now c.in_ok-of_nodes.ensures table.canonical table.named c.requires.few

pub returns-clause-polyvalue : goal.returns-clause-polyvalue
returns-clause-polyvalue g c =
    let table = c.in_ok-root.ensures.table in
    polyvalue-within HELD_NAMES (cases_at c.from_table.new.self c.in_ok-root.root) c.in_ok-of_nodes.field-0 c.args.txns.now c.in_ok-of_nodes.ensures table.canonical table.named c.requires.few
