-- It is there twice where it stands first and second behind the earlier ones.
use Rattle.pv_audit.proofs.SortedLists.{twice-first, twice-other, twice-short}
use Rattle.pv_audit.proofs.lists.Sorted.has_twice.Goals as goal

pub returns-in_default : goal.returns-in_default
returns-in_default c = λ others sorted.
    twice-short c.args.txn c.args.self.now.txns.items others sorted c.from.result.now c.in_default.len_below (c.from.ensures others sorted)

pub returns-then-is_same : goal.returns-then-is_same
returns-then-is_same c = λ others sorted.
    twice-first c.args.txn c.args.self.now.txns.items others sorted c.from.result.now _ _ c.is_same.result c.is_same-then-is_same.result c.in-len2-up.len_at_least
    (c.from.ensures others sorted) c.is_same.ensures c.if-is_same.true c.is_same-then-is_same.ensures

pub returns-else-is_same : goal.returns-else-is_same
returns-else-is_same c = λ others sorted.
    twice-other c.args.txn c.args.self.now.txns.items others sorted c.from.result.now _ c.is_same.result c.in-len2-up.len_at_least (c.from.ensures others sorted)
    c.is_same.ensures c.if-is_same.false
