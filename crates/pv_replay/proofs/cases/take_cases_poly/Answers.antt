-- The count, so many cases, and then whether they are a polyvalue.
use Rattle.std.proofs.Common.{◌∷◌, [], Some, arith}
use Rattle.std.proofs.lemmas.Result.{err_from_is_err_and}
use Rattle.pv_format.specs.FirstFault.{short}
use Rattle.pv_format.specs.Layout.{any}
use Rattle.pv_replay.specs.Faults.{fault_of}
use Rattle.pv_fields.proofs.PartLemmas.{stops_at_number, stops_short}
use Rattle.pv_fields.proofs.PolyvalueLemmas.{stops_cases, counted_literals}
use Rattle.pv_replay.proofs.CaseLemmas.{after_count, cases_pass, cases_stop, case_passes, case_stops, kept_passes, refused_stops}
use Rattle.pv_replay.proofs.LeftLemmas.{gone_further}
use Rattle.pv_replay.proofs.cases.take_cases_poly.Goals as goal

pub returns-in_err-count-clause-stops : goal.returns-in_err-count-clause-stops
returns-in_err-count-clause-stops c =
    let p = err_from_is_err_and c.from_residual.result c.from_residual.ensures.1 in
    rw (p.1, p.2)
    (stops_cases c.args.take.now (Some (short c.in_err-count.field-0.0.0))
    (stops_at_number 2 any after_count c.args.take.now (Some (short c.in_err-count.field-0.0.0))
    (stops_short 2 any c.args.take.now c.u16.new.self c.in_err-count.field-0.0 c.in_err-count.ensures.short)))

pub returns-in_err-case-clause-stops : goal.returns-in_err-case-clause-stops
returns-in_err-case-clause-stops c =
    let p = err_from_is_err_and c.from_residual-in_err-case.result c.from_residual-in_err-case.ensures.1 in
    rw (p.1, p.2)
    (stops_cases c.args.take.now (fault_of c.in_err-case.field-0.0)
    (case_stops c.in_ok-count.count c.args.take.now c.u16.new.self c.in_ok-count.ensures.taken (omega arith) (fault_of c.in_err-case.field-0.0) (omega arith) c.in_err-case.ensures.stops))

pub returns-then-count-eq1-clause-passes : goal.returns-then-count-eq1-clause-passes
returns-then-count-eq1-clause-passes c =
    kept_passes (c.in_ok-case.case ∷ []) c.args.take.now c.take_case.new.take
    (case_passes c.in_ok-count.count c.args.take.now c.u16.new.self c.in_ok-count.ensures.taken (omega arith) c.in_ok-case.case c.take_case.new.take (omega arith) c.in_ok-case.ensures.passes)
    c.poly_of_case.result c.poly_of_case.ensures.kept

pub returns-then-count-eq1-clause-stops : goal.returns-then-count-eq1-clause-stops
returns-then-count-eq1-clause-stops c =
    refused_stops (c.in_ok-case.case ∷ []) c.args.take.now c.take_case.new.take
    (case_passes c.in_ok-count.count c.args.take.now c.u16.new.self c.in_ok-count.ensures.taken (omega arith) c.in_ok-case.case c.take_case.new.take (omega arith) c.in_ok-case.ensures.passes)
    c.place-place.result c.poly_of_case.result c.place-place.ensures.place c.poly_of_case.ensures.refused

pub returns-in_err-cases-clause-stops : goal.returns-in_err-cases-clause-stops
returns-in_err-cases-clause-stops c =
    let p = err_from_is_err_and c.from_residual-in_err-cases.result c.from_residual-in_err-cases.ensures.1 in
    rw (p.1, p.2)
    (stops_cases c.args.take.now (fault_of c.in_err-cases.field-0.0)
    (cases_stop c.in_ok-count.count c.args.take.now c.u16.new.self c.in_ok-count.ensures.taken (omega arith) (fault_of c.in_err-cases.field-0.0) c.in_err-cases.ensures.stops))

pub poly_of-requires-clause-few_literals : goal.poly_of-requires-clause-few_literals
poly_of-requires-clause-few_literals c =
    let counted = c.in_ok-cases.ensures.counted in
    let all = counted_literals c.in_ok-cases.cases.items c.in_ok-cases.ensures.passes.taken.front c.in_ok-cases.ensures.passes.taken.is in
    omega arith

pub returns-clause-passes : goal.returns-clause-passes
returns-clause-passes c =
    kept_passes c.in_ok-cases.cases.items c.args.take.now c.take_counted_cases.new.take
    (cases_pass c.in_ok-count.count c.args.take.now c.u16.new.self c.in_ok-count.ensures.taken (omega arith) c.in_ok-cases.cases.items c.take_counted_cases.new.take
    c.in_ok-cases.ensures.counted c.in_ok-cases.ensures.passes)
    c.poly_of.result c.poly_of.ensures.kept

pub returns-clause-stops : goal.returns-clause-stops
returns-clause-stops c =
    refused_stops c.in_ok-cases.cases.items c.args.take.now c.take_counted_cases.new.take
    (cases_pass c.in_ok-count.count c.args.take.now c.u16.new.self c.in_ok-count.ensures.taken (omega arith) c.in_ok-cases.cases.items c.take_counted_cases.new.take
    c.in_ok-cases.ensures.counted c.in_ok-cases.ensures.passes)
    c.place-place.result c.poly_of.result c.place-place.ensures.place c.poly_of.ensures.refused

pub returns-in_err-case-clause-left : goal.returns-in_err-case-clause-left
returns-in_err-case-clause-left c = gone_further c.args.take.now c.u16.new.self c.take_case.new.take (_, c.in_ok-count.ensures.taken) c.take_case.ensures.left

pub returns-then-count-eq1-clause-left : goal.returns-then-count-eq1-clause-left
returns-then-count-eq1-clause-left c = gone_further c.args.take.now c.u16.new.self c.take_case.new.take (_, c.in_ok-count.ensures.taken) c.take_case.ensures.left

pub returns-in_err-cases-clause-left : goal.returns-in_err-cases-clause-left
returns-in_err-cases-clause-left c =
    gone_further c.args.take.now c.u16.new.self c.take_counted_cases.new.take (_, c.in_ok-count.ensures.taken) c.take_counted_cases.ensures.left

pub returns-clause-left : goal.returns-clause-left
returns-clause-left c =
    gone_further c.args.take.now c.u16.new.self c.take_counted_cases.new.take (_, c.in_ok-count.ensures.taken) c.take_counted_cases.ensures.left
