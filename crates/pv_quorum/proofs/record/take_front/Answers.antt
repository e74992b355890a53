-- Where a field isn't whole, fewer than 15 bytes were there.
use Rattle.std.proofs.Common.{◌≡◌, ◌+◌, ℕ, List, Result, Ok, Err, length, length-append, ap, ◌∙◌, arith}
use Rattle.std.specs.Result.{OnErr}
use Rattle.pv_base.specs.BigEndian.{big_endian}
use Rattle.pv_base.proofs.BigEndianLemmas.{length-big_endian}
use Rattle.pv_bytes.specs.Reading.{Rest, HasTaken}
use Rattle.pv_quorum.proofs.record.take_front.Goals as goal

on-err : {T E P : Type 0} (result : Result T E) → P → OnErr result P
on-err (Ok x) p = tt
on-err (Err e) p = p

taken-length : (size number : ℕ) (old new : Rest) → HasTaken (big_endian size number) old new → length old.left ≡ size + length new.left
taken-length size number old new taken =
    ap (λ (bytes : List ℕ). length bytes) taken.bytes ∙ length-append (big_endian size number) new.left ∙ ap (λ n. n + length new.left) (length-big_endian size number)

pub returns-in_err-u8-clause-short : goal.returns-in_err-u8-clause-short
returns-in_err-u8-clause-short c =
    on-err c.from_residual-in_err-u8.result (omega (arith, taken-length 1 c.in_ok-kind.kind c.args.take.now c.u8.new.self c.in_ok-kind.ensures.taken, c.in_err-u8.ensures.short.fewer))

pub returns-in_err-epoch-clause-short : goal.returns-in_err-epoch-clause-short
returns-in_err-epoch-clause-short c =
    on-err c.from_residual-in_err-epoch.result (omega (arith, taken-length 1 c.in_ok-kind.kind c.args.take.now c.u8.new.self c.in_ok-kind.ensures.taken, taken-length 1 c.in_ok-u8.field-0 c.u8.new.self c.u8-2.new.self c.in_ok-u8.ensures.taken, c.in_err-epoch.ensures.short.fewer))

pub returns-in_err-number-clause-short : goal.returns-in_err-number-clause-short
returns-in_err-number-clause-short c =
    on-err c.from_residual-in_err-number.result (omega (arith, taken-length 1 c.in_ok-kind.kind c.args.take.now c.u8.new.self c.in_ok-kind.ensures.taken, taken-length 1 c.in_ok-u8.field-0 c.u8.new.self c.u8-2.new.self c.in_ok-u8.ensures.taken, taken-length 4 c.in_ok-epoch.epoch c.u8-2.new.self c.u32.new.self c.in_ok-epoch.ensures.taken, c.in_err-number.ensures.short.fewer))

pub returns-in_err-u32-clause-short : goal.returns-in_err-u32-clause-short
returns-in_err-u32-clause-short c =
    on-err c.from_residual-in_err-u32.result (omega (arith, taken-length 1 c.in_ok-kind.kind c.args.take.now c.u8.new.self c.in_ok-kind.ensures.taken, taken-length 1 c.in_ok-u8.field-0 c.u8.new.self c.u8-2.new.self c.in_ok-u8.ensures.taken, taken-length 4 c.in_ok-epoch.epoch c.u8-2.new.self c.u32.new.self c.in_ok-epoch.ensures.taken, taken-length 4 c.in_ok-number.number c.u32.new.self c.u32-2.new.self c.in_ok-number.ensures.taken, c.in_err-u32.ensures.short.fewer))

pub returns-in_err-u8-2-clause-short : goal.returns-in_err-u8-2-clause-short
returns-in_err-u8-2-clause-short c =
    on-err c.from_residual-in_err-u8-2.result (omega (arith, taken-length 1 c.in_ok-kind.kind c.args.take.now c.u8.new.self c.in_ok-kind.ensures.taken, taken-length 1 c.in_ok-u8.field-0 c.u8.new.self c.u8-2.new.self c.in_ok-u8.ensures.taken, taken-length 4 c.in_ok-epoch.epoch c.u8-2.new.self c.u32.new.self c.in_ok-epoch.ensures.taken, taken-length 4 c.in_ok-number.number c.u32.new.self c.u32-2.new.self c.in_ok-number.ensures.taken, taken-length 4 c.in_ok-u32.field-0 c.u32-2.new.self c.u32-3.new.self c.in_ok-u32.ensures.taken, c.in_err-u8-2.ensures.short.fewer))
