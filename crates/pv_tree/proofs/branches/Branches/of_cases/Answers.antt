-- The cases are those of the last node.
use Rattle.std.proofs.Common.{◌∙◌}
use Rattle.pv_tree.proofs.RootLemmas.{last-from}
use Rattle.pv_tree.proofs.branches.Branches.of_cases.Goals as goal

pub invariant_of-result : goal.invariant_of-result
invariant_of-result g c =
    last-from c.up_to.result c.args.cases.items c.args.root c.up_to.ensures.length (c.up_to.ensures.kept ∙ c.requires.cases)
