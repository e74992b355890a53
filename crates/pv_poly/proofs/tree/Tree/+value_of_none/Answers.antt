use Rattle.std.proofs.Common.{List, [], ap, sym, ◌∙◌}
use Rattle.pv_base.specs.Polyvalue.{Case, value_at}
use Rattle.pv_poly.proofs.TopOfTree.{at_Test}
use Rattle.pv_cases.proofs.TestedCases.{none-tested}
use Rattle.pv_poly.proofs.tree.Tree.+value_of_none.Goals as goal

pub returns-in-Test : goal.returns-in-Test
returns-in-Test g t c =
    none-tested (at_Test c.self.view_is c.self.invariant c.in-Test.is)
    ∙ (ap (λ (cases : List (Case g.row.V.Denot)). value_at cases []) (sym c.deref.ensures) ∙ c.value_of_none.ensures)
