-- The first of them that is the item, or none.
use Rattle.std.proofs.Common.{rules, tests}
use Rattle.std.proofs.lemmas.Iterator.{YieldsList-from_slice}
use Rattle.std.proofs.lemmas.Iterator.Search.{position_from_yields_List}
use Rattle.pv_store.proofs.StandingLemmas.{found-item, is_item}
use Rattle.pv_store.proofs.standing.found_at.Goals as goal

pub returns : goal.returns
returns c =
    let items = c.args.items.now in
    found-item items c.args.item c.position.result
    (position_from_yields_List (is_item c.args.item) _ _ c.position.result c.position.ensures.ran (YieldsList-from_slice items cc) (λ x b q k. search (rules, tests)))
