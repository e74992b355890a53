-- A canonical case alone has no literals.
use Rattle.std.proofs.Common.{ap}
use Rattle.pv_base.specs.Polyvalue.{Case}
use Rattle.pv_tree.proofs.RootLemmas.{only-value}
use Rattle.pv_tree.proofs.tree.only_value.Goals as goal

pub returns : goal.returns
returns g c =
    only-value c.args.cases.now c.index-cases-0.result c.case.inside.value c.requires.one c.index-cases-0.is (ap (λ (k : Case g.row.V.Denot). k.value) c.case.view_is) c.requires.canonical
