-- The transaction, and then the writes.
use Rattle.std.proofs.lemmas.Result.{err_from_is_err_and}
use Rattle.pv_format.specs.Form.{SpellsIn}
use Rattle.pv_format.specs.Layout.{counted_layout, polyvalue_then, txn_layout}
use Rattle.pv_format.specs.RecordSpelling.{SpellsReadsBy}
use Rattle.pv_format.specs.Spelling.{SpellsTxn}
use Rattle.pv_replay.specs.Faults.{fault_of}
use Rattle.pv_replay.specs.Values.{form_of}
use Rattle.pv_fields.proofs.PartLemmas.{passes_both, stops_first, stops_second}
use Rattle.pv_replay.proofs.record.take_prepared.Goals as goal

pub returns-in_err-txn-clause-stops : goal.returns-in_err-txn-clause-stops
returns-in_err-txn-clause-stops c =
    let p = err_from_is_err_and c.from_residual.result c.from_residual.ensures.1 in
    rw (p.1, p.2) (stops_first txn_layout (counted_layout 0 (polyvalue_then (form_of c.args.form))) c.args.take.now (fault_of c.in_err-txn.field-0.0) c.in_err-txn.ensures.stops)

pub returns-in_err-writes-clause-stops : goal.returns-in_err-writes-clause-stops
returns-in_err-writes-clause-stops c =
    let p = err_from_is_err_and c.from_residual-in_err-writes.result c.from_residual-in_err-writes.ensures.1 in
    rw (p.1, p.2)
    (stops_second (SpellsTxn c.in_ok-txn.txn) txn_layout (counted_layout 0 (polyvalue_then (form_of c.args.form))) c.args.take.now c.take_txn.new.take (fault_of c.in_err-writes.field-0.0)
    c.in_ok-txn.ensures.passes c.in_err-writes.ensures.stops)

pub returns-clause-passes : goal.returns-clause-passes
returns-clause-passes c =
    passes_both (SpellsTxn c.in_ok-txn.txn) (SpellsReadsBy (SpellsIn (form_of c.args.form)) 0 c.in_ok-writes.writes.items) txn_layout (counted_layout 0 (polyvalue_then (form_of c.args.form))) c.args.take.now c.take_txn.new.take c.take_reads.new.take
    c.in_ok-txn.ensures.passes c.in_ok-writes.ensures.passes
