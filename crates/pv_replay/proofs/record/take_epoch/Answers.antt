-- The number is whole, and then at least 1.
use Rattle.std.proofs.Common.{nat_le, arith}
use Rattle.std.proofs.lemmas.Bool.Decides.{nat_tests}
use Rattle.std.proofs.lemmas.Result.{err_from_is_err_and}
use Rattle.pv_format.specs.Spelling.{IsAllowed}
use Rattle.pv_fields.proofs.PartLemmas.{passes_number, passes_part, stops_number, stops_short}
use Rattle.pv_replay.proofs.record.take_epoch.Goals as goal

pub returns-in_err-epoch-clause-stops : goal.returns-in_err-epoch-clause-stops
returns-in_err-epoch-clause-stops c =
    let p = err_from_is_err_and c.from_residual.result c.from_residual.ensures.1 in
    rw (p.1, p.2) (λ next. stops_short 4 (nat_le 1) c.args.take.now c.u32.new.self c.in_err-epoch.field-0.0 c.in_err-epoch.ensures.short (λ _. next))

pub returns-then-epoch-lt1-clause-stops : goal.returns-then-epoch-lt1-clause-stops
returns-then-epoch-lt1-clause-stops c = λ next.
    rw c.place-place.ensures.place
    (stops_number 4 c.in_ok-epoch.epoch c.args.take.now c.u32.new.self c.in_ok-epoch.ensures.taken (omega arith) (nat_le 1) (grind (arith, nat_tests)) (λ _. next))

pub returns-clause-passes : goal.returns-clause-passes
returns-clause-passes c =
    passes_part (IsAllowed 4 (nat_le 1) c.in_ok-epoch.epoch) 4 (nat_le 1) c.in_ok-epoch.epoch c.args.take.now c.u32.new.self
    (passes_number 4 c.in_ok-epoch.epoch c.args.take.now c.u32.new.self c.in_ok-epoch.ensures.taken (omega arith) (nat_le 1) (grind (arith, nat_tests)))
