-- The transaction, its outcome, and then the end.
use Rattle.std.proofs.Common.{Err, sym, ap, ◌∙◌}
use Rattle.pv_outbox.specs.declared.record.Record.TheVariants.{Learnt}
use Rattle.pv_outbox.proofs.ReadingLemmas.{learnt-read, no-end, no-truth, no-txn, whole-content}
use Rattle.pv_outbox.proofs.record.decode_learnt.Goals as goal

pub returns-in_default : goal.returns-in_default
returns-in_default c =
    no-txn c.args.content.now c.new-take.result c.new-take.ensures c.in_default.field-0
    (λ none. c.take_txn.ensures.memory (c.in_default.is ∙ ap (λ e. Err e) none)) c.in_default.ensures.stops

pub returns-in_default-take_truth : goal.returns-in_default-take_truth
returns-in_default-take_truth c =
    no-truth c.args.content.now c.new-take.result c.new-take.ensures c.in-Ok.txn c.take_txn.new.take c.in-Ok.ensures.passes c.in_default-take_truth.field-0
    (λ none. c.take_truth.ensures.memory (c.in_default-take_truth.is ∙ ap (λ e. Err e) none)) c.in_default-take_truth.ensures.stops

pub returns : goal.returns
returns c =
    whole-content 18 c.args.content.now c.left.result.now (Learnt c.in-Ok.txn c.in-Ok-take_truth.commits) c.whole.result c.whole.ensures
    (λ more.
    no-end c.args.content.now c.new-take.result c.new-take.ensures c.in-Ok.txn c.take_txn.new.take c.in-Ok.ensures.passes c.in-Ok-take_truth.commits c.take_truth.new.take
    c.in-Ok-take_truth.ensures.passes (λ none. more (c.left.ensures ∙ none)))
    (λ none.
    learnt-read c.args.content.now c.new-take.result c.new-take.ensures c.in-Ok.txn c.take_txn.new.take c.in-Ok.ensures.passes c.in-Ok-take_truth.commits c.take_truth.new.take
    c.in-Ok-take_truth.ensures.passes (sym c.left.ensures ∙ none))
