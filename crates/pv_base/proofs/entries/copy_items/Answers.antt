-- Clones of the entries stand for the same items.
use Rattle.pv_base.proofs.EntryLemmas.{IfOk-from_match, items_of-clones}
use Rattle.pv_base.proofs.entries.copy_items.Goals as goal

pub returns : goal.returns
returns c =
    let entries = c.args.items.now.entries in
    IfOk-from_match c.clone.result _ _ _ (λ copy same. items_of-clones entries copy.entries same) c.clone.ensures.cases
