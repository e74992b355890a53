-- The replies have these values, and name few transactions.
use Rattle.std.proofs.Common.{List, refl, subst}
use Rattle.pv_base.proofs.ResultLemmas.{both-ok}
use Rattle.pv_base.specs.declared.reply.Reply.{Reply}
use Rattle.pv_base.specs.Polyvalue.{AreValues}
use Rattle.pv_base.specs.declared.limits.TheConstants.{READ_NAMES}
use Rattle.pv_cases.proofs.PolyvalueFacts.{polyvalue-within}
use Rattle.pv_split.proofs.WriteLemmas.{replies-at, over_ok}
use Rattle.pv_split.proofs.writes.reply_over.Goals as goal

pub returns-clause-values : goal.returns-clause-values
returns-clause-values c =
    over_ok c.from_table.result _ _
    (λ reply are. replies-at c.args.txns.now reply c.in_ok-replies.replies.items c.args.effects.now
    (subst (λ (replies : List Reply). AreValues reply c.args.txns.now replies) c.deref.ensures.value are) c.in_ok-replies.ensures)
    c.from_table.ensures.values

pub returns-clause-polyvalue : goal.returns-clause-polyvalue
returns-clause-polyvalue c =
    both-ok _ _ _ c.from_table.result c.from_table.ensures.names c.from_table.ensures.polyvalue
    (λ reply named is. polyvalue-within READ_NAMES reply reply c.args.txns.now refl is.canonical named c.requires.few)
