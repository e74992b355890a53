use Rattle.std.proofs.Common.{rules}
use Rattle.std.proofs.lemmas.List.Sorted.{answers_always}
use Rattle.pv_coord.proofs.Found.{searched}
use Rattle.pv_coord.specs.Work.{txn_of}
use Rattle.pv_coord.proofs.coord.place_of.Goals as goal

pub returns : goal.returns
returns c =
    let facts = c.binary_search_by_key.ensures in
    let by_key = facts.position txn_of (answers_always _ _ _ (λ f a r g called. search rules)) in
    rw c.ok.ensures.value (searched _ c.requires.ordered c.args.txn _ facts.bound by_key)
