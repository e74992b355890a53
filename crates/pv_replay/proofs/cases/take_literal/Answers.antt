-- The truth value, and then the transaction.
use Rattle.std.proofs.lemmas.Result.{err_from_is_err_and}
use Rattle.pv_format.specs.Layout.{truth_layout, txn_layout}
use Rattle.pv_format.specs.Spelling.{IsTruth, SpellsTxn}
use Rattle.pv_replay.specs.Faults.{fault_of}
use Rattle.pv_fields.proofs.PartLemmas.{passes_both, stops_first, stops_second}
use Rattle.pv_replay.proofs.LeftLemmas.{gone_further}
use Rattle.pv_replay.proofs.cases.take_literal.Goals as goal

pub returns-in_err-commits-clause-stops : goal.returns-in_err-commits-clause-stops
returns-in_err-commits-clause-stops c =
    let p = err_from_is_err_and c.from_residual.result c.from_residual.ensures.1 in
    rw (p.1, p.2) (stops_first truth_layout txn_layout c.args.take.now (fault_of c.in_err-commits.field-0.0) c.in_err-commits.ensures.stops)

pub returns-in_err-txn-clause-stops : goal.returns-in_err-txn-clause-stops
returns-in_err-txn-clause-stops c =
    let p = err_from_is_err_and c.from_residual-in_err-txn.result c.from_residual-in_err-txn.ensures.1 in
    rw (p.1, p.2)
    (stops_second (IsTruth c.in_ok-commits.commits) truth_layout txn_layout c.args.take.now c.take_truth.new.take (fault_of c.in_err-txn.field-0.0)
    c.in_ok-commits.ensures.passes c.in_err-txn.ensures.stops)

pub returns-clause-passes : goal.returns-clause-passes
returns-clause-passes c =
    passes_both (IsTruth c.in_ok-commits.commits) (SpellsTxn c.in_ok-txn.txn) truth_layout txn_layout c.args.take.now c.take_truth.new.take c.take_txn.new.take
    c.in_ok-commits.ensures.passes c.in_ok-txn.ensures.passes

pub returns-in_err-txn-clause-left : goal.returns-in_err-txn-clause-left
returns-in_err-txn-clause-left c = gone_further c.args.take.now c.take_truth.new.take c.take_txn.new.take c.take_truth.ensures.left c.take_txn.ensures.left

pub returns-clause-left : goal.returns-clause-left
returns-clause-left c = gone_further c.args.take.now c.take_truth.new.take c.take_txn.new.take c.take_truth.ensures.left c.take_txn.ensures.left
