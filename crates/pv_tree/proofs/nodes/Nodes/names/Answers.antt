-- What the node adds to an empty list, in order, are its names.
use Rattle.std.proofs.Common.{◌∙◌}
use Rattle.pv_cases.proofs.AddedNames.{AreNames-added}
use Rattle.pv_tree.specs.Meanings.{cases_at}
use Rattle.pv_tree.proofs.AddedNames.{none-seen}
use Rattle.pv_tree.proofs.nodes.Nodes.names.Goals as goal

pub push_names-requires-clause-seen : goal.push_names-requires-clause-seen
push_names-requires-clause-seen g c =
    none-seen c.args.self.now _ c.deref_mut.result.now c.new-txns.result.items (c.deref_mut.ensures.value ∙ c.in_ok-seen.ensures.items_if_clones_equal (λ y same. same))

pub returns : goal.returns
returns g c =
    AreNames-added (cases_at c.args.self.now c.args.number) c.new-txns.result.items c.push_names.new.txns.items c.ordered.result.items c.new-txns.ensures.items
    c.in_ok-push_names.ensures.names c.ordered.ensures.ascending c.ordered.ensures.same
