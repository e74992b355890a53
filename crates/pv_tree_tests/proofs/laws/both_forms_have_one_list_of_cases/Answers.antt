-- Values have one canonical list of cases at most.
use Rattle.std.proofs.Common.{List, refl, ap}
use Rattle.pv_base.specs.Polyvalue.{Case, value_at}
use Rattle.pv_law_polyvalues.proofs.PolyvalueLemmas.{one-canonical}
use Rattle.pv_tree_tests.proofs.laws.both_forms_have_one_list_of_cases.Goals as goal

pub returns : goal.returns
returns g c = (
  one-canonical c.args.plain.now c.args.tree.now c.cases.ensures.polyvalue.canonical c.cases-2.ensures.polyvalue.canonical,
  λ same a. ap (λ (cases : List (Case g.row.V.Denot)). value_at cases a) same,
)
