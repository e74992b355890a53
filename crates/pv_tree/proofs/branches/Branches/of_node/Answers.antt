-- The cases are those of the last node.
use Rattle.std.proofs.Common.{◌≡◌, List, ◌++◌, sym, ap₂, ◌∙◌}
use Rattle.pv_base.specs.declared.literal.Literal.{Literal}
use Rattle.pv_base.specs.Polyvalue.{Case}
use Rattle.pv_cases.specs.CasesAt.{under_all}
use Rattle.pv_cases.proofs.CasesAtLemmas.{behind-none}
use Rattle.pv_tree.specs.Meanings.{cases_at}
use Rattle.pv_tree.proofs.RootLemmas.{last-from}
use Rattle.pv_tree.proofs.branches.Branches.of_node.Goals as goal

pub invariant_of-result : goal.invariant_of-result
invariant_of-result g c =
    let cases = cases_at c.up_to-nodes.result c.args.root in
    let made : c.push_cases.new.cases.items ≡ cases =
    c.in_ok-push_cases.ensures.cases
    ∙ ap₂ (λ (old : List (Case g.row.V.Denot)) (way : List Literal). old ++ under_all way cases) c.in_ok-cases.ensures.items c.new.ensures.items
    ∙ behind-none cases in
    last-from c.up_to-nodes.result c.push_cases.new.cases.items c.args.root c.up_to-nodes.ensures.length (sym made)

pub returns : goal.returns
returns g c =
    let cases = cases_at c.up_to-nodes.result c.args.root in
    c.in_ok-push_cases.ensures.cases
    ∙ ap₂ (λ (old : List (Case g.row.V.Denot)) (way : List Literal). old ++ under_all way cases) c.in_ok-cases.ensures.items c.new.ensures.items
    ∙ behind-none cases
    ∙ c.up_to-nodes.ensures.kept
