-- Put in order and freed of repeats, the sorted list is the ascending one of the same transactions.
use Rattle.std.proofs.Common.{List, subst, ◌∙◌}
use Rattle.std.specs.Prelude.{◌↔◌}
use Rattle.std.specs.List.{Contains}
use Rattle.pv_audit.proofs.SortedLists.{once-is}
use Rattle.pv_base.specs.declared.txn.TxnId.{TxnId}
use Rattle.pv_audit.proofs.lists.Sorted.once.Goals as goal

pub returns : goal.returns
returns c = λ others sorted.
    once-is c.args.self.now.txns.items others c.ordered.result.items sorted c.ordered.ensures.ascending
    (subst (λ (l : List TxnId). (t : TxnId) → Contains c.ordered.result.items t ↔ Contains l t) (c.in_ok-copied.ensures ∙ c.deref.ensures.value) c.ordered.ensures.same)
