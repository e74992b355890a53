use Rattle.std.proofs.Common.{List, ◌++◌, ap₂, ◌∙◌}
use Rattle.pv_base.specs.declared.literal.Literal.{Literal}
use Rattle.pv_base.specs.Polyvalue.{Case}
use Rattle.pv_cases.specs.CasesAt.{under_all}
use Rattle.pv_cases.proofs.CasesAtLemmas.{behind-none}
use Rattle.pv_poly.proofs.tree.Tree.cases.Goals as goal

pub returns : goal.returns
returns g c =
    c.in_ok-push_cases.ensures.cases
    ∙ ap₂ (λ (old : List (Case g.row.V.Denot)) (way : List Literal). old ++ under_all way c.args.self.now) c.in_ok-cases.ensures.items c.new.ensures.items
    ∙ behind-none c.args.self.now
