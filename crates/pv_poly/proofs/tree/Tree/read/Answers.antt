use Rattle.std.proofs.Common.{◌≡◌, List, IfOk, subst}
use Rattle.pv_base.specs.Polyvalue.{Case}
use Rattle.pv_cases.proofs.CasesAtLemmas.{beyond-none}
use Rattle.pv_poly.proofs.tree.Tree.read.Goals as goal

pub returns : goal.returns
returns g c =
    subst (λ (cases : List (Case g.row.V.Denot)). IfOk c.read_at.result (λ tree. tree ≡ cases)) (beyond-none c.args.cases.now) c.read_at.ensures
