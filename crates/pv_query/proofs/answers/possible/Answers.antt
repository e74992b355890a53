-- The replies of the cases are those that some outcomes give.
use Rattle.std.proofs.Common.{sym, subst}
use Rattle.std.specs.Prelude.{IsSomeAnd, All, ◌≡◌, ◌≢◌, List, Some, map, IfOk}
use Rattle.std.proofs.lemmas.Result.{IfOk-weaker}
use Rattle.std.specs.List.{AllPairs, Contains}
use Rattle.pv_base.specs.declared.txn.TxnId.{TxnId}
use Rattle.pv_base.specs.Polyvalue.{Case, value_at}
use Rattle.pv_base.specs.ReplyExact.{reply_exact}
use Rattle.pv_base.specs.declared.reply.Reply.{Reply}
use Rattle.pv_base.specs.contracts.reply.ReplyEq.TheImpl.Laws as reply_laws
use Rattle.pv_base.specs.contracts.reply.ReplyPartialEq.TheImpl as reply_eq
use Rattle.pv_query.proofs.RepeatLemmas.{repeats-distinct}
use Rattle.pv_query.proofs.AnswerLemmas.{every-possible, each-given}
use Rattle.pv_model.specs.PossibleAnswers.{possible}
use Rattle.pv_query.proofs.answers.possible.Goals as goal

pub returns-clause-possible : goal.returns-clause-possible
returns-clause-possible c =
    subst (λ (cases : List (Case Reply)). IfOk c.replies_of.result (λ replies. replies.items ≡ possible reply_eq.ghosts.eq cases)) c.cases.ensures.cases c.replies_of.ensures

pub returns-clause-every : goal.returns-clause-every
returns-clause-every c = λ assignment.
    IfOk-weaker c.replies_of.result _ _ (λ list is. subst (λ (replies : List Reply). IsSomeAnd (value_at c.args.reply.now assignment) (Contains replies)) (sym is)
    (every-possible reply_eq.ghosts.eq reply_exact c.args.reply.now c.cases.ensures.polyvalue.canonical assignment)) (returns-clause-possible c)

pub returns-clause-each : goal.returns-clause-each
returns-clause-each c =
    IfOk-weaker c.replies_of.result _ _ (λ list is. subst (λ (replies : List Reply). All (λ possible. (assignment : List TxnId) × (value_at c.args.reply.now assignment ≡ Some possible)) replies)
    (sym is) (each-given reply_eq.ghosts.eq c.args.reply.now c.cases.ensures.polyvalue.canonical)) (returns-clause-possible c)

pub returns-clause-distinct : goal.returns-clause-distinct
returns-clause-distinct c =
    IfOk-weaker c.replies_of.result _ _ (λ list is. subst (λ (replies : List Reply). AllPairs (λ reply later. reply ≢ later) replies) (sym is)
    (repeats-distinct reply_eq.ghosts.eq reply_laws.laws-law.refl (map (λ (case : Case _). case.value) c.args.reply.now))) (returns-clause-possible c)
