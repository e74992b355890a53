-- One case after another brings its reply, unless it is there.
use Rattle.std.proofs.Common.{refl, ap, subst}
use Rattle.std.specs.Prelude.{◌≡◌, List, IfOk}
use Rattle.pv_base.specs.Polyvalue.{Case}
use Rattle.pv_base.specs.ReplyExact.{reply_exact}
use Rattle.pv_base.specs.declared.reply.Reply.{Reply}
use Rattle.pv_base.specs.contracts.reply.ReplyPartialEq.TheImpl as reply_eq
use Rattle.pv_query.proofs.RepeatLemmas.{left-start, left-step, left-end}
use Rattle.pv_model.specs.PossibleAnswers.{possible}
use Rattle.pv_query.proofs.answers.replies_of.Goals as goal

pub loop-case-init : goal.loop-case-init
loop-case-init c =
    left-start reply_eq.ghosts.eq (λ (case : Case _). case.value) c.new-replies.result c.args.cases.now c.args.cases.now c.new-replies.ensures refl

pub loop-case-preserved : goal.loop-case-preserved
loop-case-preserved c =
    left-step reply_eq.ghosts.eq reply_exact (λ (case : Case _). case.value) (possible reply_eq.ghosts.eq c.args.cases.now)
    c.loop-case.replies c.push.new.self c.args.cases.now c.loop-case.case-index c.case-item.result
    c.case.inside.value c.loop-case-test.true c.case-item.is (ap (λ (case : Case _). case.value) c.case.view_is) c.loop-case.invariant
    c.in_ok-push.ensures

pub returns : goal.returns
returns c =
    subst (λ (replies : List Reply). IfOk c.list.result (λ list. list.items ≡ replies))
    (left-end reply_eq.ghosts.eq (λ (case : Case _). case.value) (possible reply_eq.ghosts.eq c.args.cases.now) c.loop-case.replies
    c.args.cases.now c.loop-case.case-index c.loop-case-test.false c.loop-case.invariant) c.list.ensures
