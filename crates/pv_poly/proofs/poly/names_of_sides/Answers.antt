-- What the tests of both trees add to an empty list, in order, are their names together.
use Rattle.std.proofs.Common.{◌++◌}
use Rattle.pv_base.specs.Polyvalue.{names}
use Rattle.pv_cases.proofs.AddedNames.{adds-both, AreNames-added}
use Rattle.pv_cases.proofs.CountLemmas.{names-append}
use Rattle.pv_poly.proofs.poly.names_of_sides.Goals as goal

pub returns : goal.returns
returns g c =
    let aborted = c.args.aborted.now in
    let committed = c.args.committed.now in
    let none = c.new-txns.result.items in
    let all = c.push_names-2.new.txns.items in
    AreNames-added (aborted ++ committed) none all c.ordered.result.items c.new-txns.ensures.items
    (adds-both (names aborted) (names committed) (names (aborted ++ committed)) (names-append aborted committed) none c.push_names.new.txns.items all
    c.in_ok-push_names.ensures c.in_ok-push_names-2.ensures)
    c.ordered.ensures.ascending c.ordered.ensures.same
