-- What is sorted and freed of repeats is ascending, and has the same members.
use Rattle.std.proofs.Common.{rules}
use Rattle.std.proofs.lemmas.List.Filters.{dedup_is}
use Rattle.pv_cases.proofs.OrderedNames.{ascending-dedup, same-dedup}
use Rattle.pv_cases.proofs.names.ordered.Goals as goal

pub returns-clause-ascending : goal.returns-clause-ascending
returns-clause-ascending c =
    let is = dedup_is _ _ _ c.dedup.ensures.filtered in
    rw is (ascending-dedup (λ t u. search rules) _ c.sort_unstable.ensures.sorted)

pub returns-clause-same : goal.returns-clause-same
returns-clause-same c = λ txn.
    let is = dedup_is _ _ _ c.dedup.ensures.filtered in
    rw is (same-dedup (λ t u. search rules) c.args.txns.items _ txn c.sort_unstable.ensures.permutation)
