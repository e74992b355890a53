-- The number of the cause, and the length if there is one.
use Rattle.std.proofs.Common.{◌≡◌, ◌==◌, ℕ, Some, if◌then◌else◌, refl, subst, arith}
use Rattle.std.proofs.lemmas.Bool.Decides.{nat_tests}
use Rattle.std.proofs.lemmas.Result.{err_from_is_err_and}
use Rattle.pv_base.specs.BigEndian.{big_endian, IsNumber}
use Rattle.pv_bytes.specs.Reading.{HasTaken}
use Rattle.pv_format.specs.FirstFault.{short}
use Rattle.pv_format.specs.Layout.{Layout, any, is_cause, number_then}
use Rattle.pv_fields.proofs.PartLemmas.{number_allowed, passes_after_number, passes_any, stops_after_number, stops_any, stops_at_number, stops_number, stops_short}
use Rattle.pv_fields.proofs.PartLemmas.{passes_alone}
use Rattle.pv_wire.proofs.fields.take_cause.Goals as goal

abbrev after_cause : ℕ → Layout → Layout
after_cause cause next = if cause == 1 then next else number_then 8 any (λ _. next)

pub returns-in_err-cause-clause-stops : goal.returns-in_err-cause-clause-stops
returns-in_err-cause-clause-stops c =
    let p = err_from_is_err_and c.from_residual.result c.from_residual.ensures.1 in
    rw (p.1, p.2) (stops_at_number 1 is_cause after_cause c.args.take.now (Some (short c.in_err-cause.field-0.0.0))
    (stops_short 1 is_cause c.args.take.now c.u8.new.self c.in_err-cause.field-0.0 c.in_err-cause.ensures.short))

pub returns-then-cause-eq1-clause-passes : goal.returns-then-cause-eq1-clause-passes
returns-then-cause-eq1-clause-passes c =
    let one : c.in_ok-cause.cause ≡ 1 = omega arith in
    let taken = subst (λ n. HasTaken (big_endian 1 n) c.args.take.now c.u8.new.self) one c.in_ok-cause.ensures.taken in
    passes_alone (IsNumber 1 1) 1 is_cause 1 after_cause c.args.take.now c.u8.new.self
    (number_allowed 1 1 is_cause c.args.take.now c.u8.new.self taken (omega arith) refl) (λ next. refl)

pub returns-then-cause-ne2-clause-stops : goal.returns-then-cause-ne2-clause-stops
returns-then-cause-ne2-clause-stops c = λ next.
    rw c.place-place.ensures.place
    (stops_number 1 c.in_ok-cause.cause c.args.take.now c.u8.new.self c.in_ok-cause.ensures.taken (omega arith) is_cause (grind (arith, nat_tests)) (λ cause. after_cause cause next))

pub returns-in_err-length-clause-stops : goal.returns-in_err-length-clause-stops
returns-in_err-length-clause-stops c =
    let two : c.in_ok-cause.cause ≡ 2 = omega arith in
    let taken = subst (λ n. HasTaken (big_endian 1 n) c.args.take.now c.u8.new.self) two c.in_ok-cause.ensures.taken in
    let p = err_from_is_err_and c.from_residual-in_err-length.result c.from_residual-in_err-length.ensures.1 in
    rw (p.1, p.2) (stops_after_number (IsNumber 1 2) 1 is_cause 2 after_cause c.args.take.now c.u8.new.self
    (number_allowed 1 2 is_cause c.args.take.now c.u8.new.self taken (omega arith) refl) (Some (short c.in_err-length.field-0.0.0))
    (stops_any 8 c.u8.new.self c.u64.new.self c.in_err-length.field-0.0 c.in_err-length.ensures.short))

pub returns-clause-passes : goal.returns-clause-passes
returns-clause-passes c =
    let two : c.in_ok-cause.cause ≡ 2 = omega arith in
    let taken = subst (λ n. HasTaken (big_endian 1 n) c.args.take.now c.u8.new.self) two c.in_ok-cause.ensures.taken in
    passes_after_number (IsNumber 1 2) 1 is_cause 2 after_cause c.args.take.now c.u8.new.self
    (number_allowed 1 2 is_cause c.args.take.now c.u8.new.self taken (omega arith) refl) (IsNumber 8 c.in_ok-length.length) c.u64.new.self
    (passes_any 8 c.in_ok-length.length c.u8.new.self c.u64.new.self c.in_ok-length.ensures.taken (omega arith))
