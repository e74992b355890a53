-- What the cases add to an empty list, in order, are their names.
use Rattle.pv_cases.proofs.AddedNames.{AreNames-added}
use Rattle.pv_cases.proofs.names.names_of.Goals as goal

pub returns : goal.returns
returns g c =
    AreNames-added c.args.cases.now c.new-txns.result.items c.push_names.new.txns.items c.ordered.result.items
    c.new-txns.ensures.items c.in_ok-push_names.ensures.names c.ordered.ensures.ascending c.ordered.ensures.same
