-- One number after the other.
use Rattle.std.proofs.Common.{Some, arith}
use Rattle.std.proofs.lemmas.Result.{err_from_is_err_and}
use Rattle.pv_base.specs.BigEndian.{IsNumber}
use Rattle.pv_format.specs.FirstFault.{short}
use Rattle.pv_format.specs.Layout.{Layout, any, number_then}
use Rattle.pv_fields.proofs.PartLemmas.{passes_any, passes_both, stops_any, stops_first, stops_second}
use Rattle.pv_wire.proofs.fields.take_grant.Goals as goal

abbrev part : Layout → Layout
part next = number_then 4 any (λ _. next)

pub returns-in_err-epoch-clause-stops : goal.returns-in_err-epoch-clause-stops
returns-in_err-epoch-clause-stops c =
    let p = err_from_is_err_and c.from_residual.result c.from_residual.ensures.1 in
    rw (p.1, p.2) (stops_first part part c.args.take.now (Some (short c.in_err-epoch.field-0.0.0))
    (stops_any 4 c.args.take.now c.u32.new.self c.in_err-epoch.field-0.0 c.in_err-epoch.ensures.short))

pub returns-in_err-number-clause-stops : goal.returns-in_err-number-clause-stops
returns-in_err-number-clause-stops c =
    let p = err_from_is_err_and c.from_residual-in_err-number.result c.from_residual-in_err-number.ensures.1 in
    rw (p.1, p.2) (stops_second (IsNumber 4 c.in_ok-epoch.epoch) part part c.args.take.now c.u32.new.self (Some (short c.in_err-number.field-0.0.0))
    (passes_any 4 c.in_ok-epoch.epoch c.args.take.now c.u32.new.self c.in_ok-epoch.ensures.taken (omega arith))
    (stops_any 4 c.u32.new.self c.u32-2.new.self c.in_err-number.field-0.0 c.in_err-number.ensures.short))

pub returns-clause-passes : goal.returns-clause-passes
returns-clause-passes c =
    passes_both (IsNumber 4 c.in_ok-epoch.epoch) (IsNumber 4 c.in_ok-number.number) part part c.args.take.now c.u32.new.self c.u32-2.new.self
    (passes_any 4 c.in_ok-epoch.epoch c.args.take.now c.u32.new.self c.in_ok-epoch.ensures.taken (omega arith))
    (passes_any 4 c.in_ok-number.number c.u32.new.self c.u32-2.new.self c.in_ok-number.ensures.taken (omega arith))
