-- It is there where it stands first behind the earlier ones.
use Rattle.std.proofs.Common.{◌∙◌}
use Rattle.pv_audit.proofs.SortedLists.{has-long, has-short}
use Rattle.pv_audit.proofs.lists.Sorted.has.Goals as goal

pub returns-in-empty : goal.returns-in-empty
returns-in-empty c = λ others sorted.
    has-short c.args.txn c.args.self.now.txns.items others sorted c.from.result.now c.in-empty.len_below (c.from.ensures others sorted)

pub returns-in-len1-up : goal.returns-in-len1-up
returns-in-len1-up c = λ others sorted.
    c.is_same.ensures ∙ has-long c.args.txn c.args.self.now.txns.items others sorted c.from.result.now _ c.in-len1-up.len_at_least (c.from.ensures others sorted)
