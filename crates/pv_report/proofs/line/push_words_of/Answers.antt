-- The pieces are those of the line.
use Rattle.std.proofs.lemmas.Result.{on_ok_weaker}
use Rattle.pv_base.specs.Txn.{txn_text}
use Rattle.pv_protocol.specs.LineText.{cause_text, words_of}
use Rattle.pv_protocol.specs.State.{outcome_limit, uncertain, grant_lost, journal_full}
use Rattle.pv_report.proofs.PieceLemmas.{put_cause}
use Rattle.pv_report.proofs.line.push_words_of.Goals as goal

pub returns-in_ok-push_refused-in-RefuseLimit-clause-text : goal.returns-in_ok-push_refused-in-RefuseLimit-clause-text
unfolding words_of
returns-in_ok-push_refused-in-RefuseLimit-clause-text c =
    rw c.in-RefuseLimit.is
    (on_ok_weaker c.push_numbered.result
    (λ written. put_cause c.args.text.now.items c.push_refused-in-RefuseLimit.new.text.items c.push_numbered.new.text.items (txn_text c.in-RefuseLimit.txn)
    (cause_text c.args.catalog.now (outcome_limit c.in-RefuseLimit.names)) c.in_ok-push_refused-in-RefuseLimit.ensures.text written)
    c.push_numbered.ensures.text)

pub returns-in_ok-push_refused-in-RefuseUncertain-clause-text : goal.returns-in_ok-push_refused-in-RefuseUncertain-clause-text
unfolding words_of
returns-in_ok-push_refused-in-RefuseUncertain-clause-text c =
    rw c.in-RefuseUncertain.is
    (on_ok_weaker c.push_uncertain.result
    (λ written. put_cause c.args.text.now.items c.push_refused-in-RefuseUncertain.new.text.items c.push_uncertain.new.text.items (txn_text c.in-RefuseUncertain.txn)
    (cause_text c.args.catalog.now (uncertain c.in-RefuseUncertain.item.0 c.in-RefuseUncertain.names)) c.in_ok-push_refused-in-RefuseUncertain.ensures.text written)
    c.push_uncertain.ensures.text)

pub returns-in_ok-push_refused-in-RefuseLost-clause-text : goal.returns-in_ok-push_refused-in-RefuseLost-clause-text
unfolding words_of
returns-in_ok-push_refused-in-RefuseLost-clause-text c =
    rw c.in-RefuseLost.is
    (on_ok_weaker c.push_numbered-in-RefuseLost.result
    (λ written. put_cause c.args.text.now.items c.push_refused-in-RefuseLost.new.text.items c.push_numbered-in-RefuseLost.new.text.items (txn_text c.in-RefuseLost.txn)
    (cause_text c.args.catalog.now (grant_lost c.in-RefuseLost.site.0)) c.in_ok-push_refused-in-RefuseLost.ensures.text written)
    c.push_numbered-in-RefuseLost.ensures.text)

pub returns-in_ok-push_refused-in-RefuseFull-clause-text : goal.returns-in_ok-push_refused-in-RefuseFull-clause-text
unfolding words_of
returns-in_ok-push_refused-in-RefuseFull-clause-text c =
    rw c.in-RefuseFull.is
    (on_ok_weaker c.push_two_numbers.result
    (λ written. put_cause c.args.text.now.items c.push_refused-in-RefuseFull.new.text.items c.push_two_numbers.new.text.items (txn_text c.in-RefuseFull.txn)
    (cause_text c.args.catalog.now (journal_full c.in-RefuseFull.site.0 c.in-RefuseFull.length)) c.in_ok-push_refused-in-RefuseFull.ensures.text written)
    c.push_two_numbers.ensures.text)

pub returns-in-TotalLocked-clause-text : goal.returns-in-TotalLocked-clause-text
unfolding words_of
returns-in-TotalLocked-clause-text c = rw c.in-TotalLocked.is c.push_item-in-TotalLocked.ensures.text
