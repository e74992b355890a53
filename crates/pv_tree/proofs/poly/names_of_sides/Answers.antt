-- What both nodes add to an empty list, in order, are their names together.
use Rattle.std.proofs.Common.{◌++◌, ◌∙◌}
use Rattle.pv_base.specs.Polyvalue.{names}
use Rattle.pv_cases.proofs.AddedNames.{adds-both, AreNames-added}
use Rattle.pv_cases.proofs.CountLemmas.{names-append}
use Rattle.pv_tree.specs.Meanings.{cases_at}
use Rattle.pv_tree.proofs.AddedNames.{none-seen}
use Rattle.pv_tree.proofs.poly.names_of_sides.Goals as goal

pub push_names-requires-clause-seen : goal.push_names-requires-clause-seen
push_names-requires-clause-seen g c =
    none-seen c.args.nodes.now _ c.deref_mut.result.now c.new-txns.result.items (c.deref_mut.ensures.value ∙ c.in_ok-seen.ensures.items_if_clones_equal (λ y same. same))

pub returns : goal.returns
returns g c =
    let aborted = cases_at c.args.nodes.now c.args.aborted in
    let committed = cases_at c.args.nodes.now c.args.committed in
    let none = c.new-txns.result.items in
    let all = c.push_names-2.new.txns.items in
    AreNames-added (aborted ++ committed) none all c.ordered.result.items c.new-txns.ensures.items
    (adds-both (names aborted) (names committed) (names (aborted ++ committed)) (names-append aborted committed) none c.push_names.new.txns.items all
    c.in_ok-push_names.ensures.names c.in_ok-push_names-2.ensures.names)
    c.ordered.ensures.ascending c.ordered.ensures.same
