-- The number is whole, and then 0 or 1.
use Rattle.std.proofs.Common.{true, false, arith}
use Rattle.std.proofs.lemmas.Result.{err_from_is_err_and}
use Rattle.pv_format.specs.Spelling.{is_truth}
use Rattle.std.proofs.lemmas.Bool.Decides.{nat_tests}
use Rattle.pv_fields.proofs.PartLemmas.{passes_truth, stops_number, stops_short}
use Rattle.pv_replay.proofs.fields.take_truth.Goals as goal

pub returns-in_err-u8-clause-stops : goal.returns-in_err-u8-clause-stops
returns-in_err-u8-clause-stops c =
    let p = err_from_is_err_and c.from_residual.result c.from_residual.ensures.1 in
    rw (p.1, p.2) (λ next. stops_short 1 is_truth c.args.take.now c.u8.new.self c.in_err-u8.field-0.0 c.in_err-u8.ensures.short (λ _. next))

pub returns-in-0-clause-passes : goal.returns-in-0-clause-passes
returns-in-0-clause-passes c = passes_truth c.in_ok-u8.field-0 false c.args.take.now c.u8.new.self c.in_ok-u8.ensures.taken (omega arith)

pub returns-in-1-clause-passes : goal.returns-in-1-clause-passes
returns-in-1-clause-passes c = passes_truth c.in_ok-u8.field-0 true c.args.take.now c.u8.new.self c.in_ok-u8.ensures.taken (omega arith)

pub returns-in_default-clause-stops : goal.returns-in_default-clause-stops
returns-in_default-clause-stops c = λ next.
    rw c.place-place.ensures.place
    (stops_number 1 c.in_ok-u8.field-0 c.args.take.now c.u8.new.self c.in_ok-u8.ensures.taken (omega arith) is_truth (grind (arith, nat_tests)) (λ _. next))
