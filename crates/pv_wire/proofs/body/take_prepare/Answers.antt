-- The grant and the values, in the form of the kind.
use Rattle.std.proofs.Common.{refl}
use Rattle.std.proofs.lemmas.Result.{err_from_is_err_and}
use Rattle.pv_format.specs.Form.{SpellsIn}
use Rattle.pv_format.specs.Layout.{counted_layout, grant_layout, polyvalue_then}
use Rattle.pv_format.specs.RecordSpelling.{SpellsReadsBy}
use Rattle.pv_format.specs.Spelling.{SpellsGrant}
use Rattle.pv_replay.specs.Faults.{fault_of}
use Rattle.pv_replay.specs.Values.{form_of}
use Rattle.pv_fields.proofs.PartLemmas.{passes_both, stops_first, stops_second}
use Rattle.pv_wire.proofs.BodyLemmas.{form_for, prepare_passes, prepare_stops}
use Rattle.pv_wire.proofs.body.take_prepare.Goals as goal

pub returns-in_err-grant-clause-stops : goal.returns-in_err-grant-clause-stops
returns-in_err-grant-clause-stops c =
    let p = err_from_is_err_and c.from_residual.result c.from_residual.ensures.1 in
    rw (p.1, p.2)
    (prepare_stops c.args.kind (form_for c.args.kind) refl c.args.take.now (fault_of c.in_err-grant.field-0.0) c.requires
    (stops_first grant_layout (counted_layout 0 (polyvalue_then (form_for c.args.kind))) c.args.take.now (fault_of c.in_err-grant.field-0.0) c.in_err-grant.ensures.stops))

pub returns-in_err-writes-clause-stops : goal.returns-in_err-writes-clause-stops
returns-in_err-writes-clause-stops c =
    let p = err_from_is_err_and c.from_residual-in_err-writes.result c.from_residual-in_err-writes.ensures.1 in
    rw (p.1, p.2)
    (prepare_stops c.args.kind (form_of c.form_for.result) c.form_for.ensures c.args.take.now (fault_of c.in_err-writes.field-0.0) c.requires
    (stops_second (SpellsGrant c.in_ok-grant.grant) grant_layout (counted_layout 0 (polyvalue_then (form_of c.form_for.result))) c.args.take.now c.take_grant.new.take
    (fault_of c.in_err-writes.field-0.0) c.in_ok-grant.ensures.passes c.in_err-writes.ensures.stops))

pub returns-clause-passes : goal.returns-clause-passes
returns-clause-passes c =
    prepare_passes c.args.txn c.in_ok-grant.grant c.in_ok-writes.writes.items c.args.take.now c.take_reads.new.take c.args.kind (form_of c.form_for.result) c.form_for.ensures c.requires
    (passes_both (SpellsGrant c.in_ok-grant.grant) (SpellsReadsBy (SpellsIn (form_of c.form_for.result)) 0 c.in_ok-writes.writes.items) grant_layout
    (counted_layout 0 (polyvalue_then (form_of c.form_for.result))) c.args.take.now c.take_grant.new.take c.take_reads.new.take
    c.in_ok-grant.ensures.passes c.in_ok-writes.ensures.passes)
