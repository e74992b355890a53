-- The replies are those of the cases that are asked for.
use Rattle.std.proofs.Common.{◌≡◌, ◌∙◌, List, subst, sym}
use Rattle.std.specs.Prelude.{IfOk}
use Rattle.pv_base.specs.Polyvalue.{Case}
use Rattle.pv_base.specs.contracts.reply.ReplyPartialEq.TheImpl as reply_eq
use Rattle.pv_base.specs.declared.reply.Reply.{Reply}
use Rattle.pv_model.specs.PossibleAnswers.{possible}
use Rattle.pv_site.proofs.SureLemmas.{settled-committed, sure-committed}
use Rattle.pv_site.proofs.committing.replies_after.Goals as goal

pub returns-then-is_sure : goal.returns-then-is_sure
returns-then-is_sure c = λ settled is.
    subst (λ (cases : List (Case Reply)). IfOk c.possible.result (λ replies. replies.items ≡ possible reply_eq.ghosts.eq cases))
    (sure-committed c.args.store.now.records c.args.txn c.args.reply.now settled (sym c.is_sure.ensures ∙ c.if-is_sure.true) is) c.possible.ensures.possible

pub returns : goal.returns
returns c = λ settled is.
    subst (λ (cases : List (Case Reply)). IfOk c.possible-3.result (λ replies. replies.items ≡ possible reply_eq.ghosts.eq cases))
    (settled-committed c.args.store.now.records c.args.txn c.args.reply.now c.in_ok-known.known c.in_ok-settle.field-0 settled
    c.in_ok-known.ensures.value c.in_ok-settle.ensures.settled c.in_ok-settle.ensures.polyvalue is)
    c.possible-3.ensures.possible
