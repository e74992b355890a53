-- One digit more.
use Rattle.std.proofs.Common.{ℕ, ◌+◌, ◌*◌, ◌^◌, get_or, sym, ap, ◌∙◌}
use Rattle.std.specs.Char.{digit_value}
use Rattle.std.proofs.lemmas.Int.Digits.{digits_value_more}
use Rattle.pv_audit.proofs.SumLemmas.{digit-at, prefix-below}
use Rattle.pv_audit.proofs.sums.digits_in.Goals as goal

pub returns-in_err-number-clause-none : goal.returns-in_err-number-clause-none
returns-in_err-number-clause-none c = rw c.from_residual.ensures (λ all small.
    c.in_err-number.ensures.none (digit-at c.args.word.now c.loop-byte.byte-index all c.loop-byte-test.true)
    (rw c.loop-byte.invariant (prefix-below (2 ^ 128) c.args.word.now c.loop-byte.byte-index c.loop-byte-test.true small)))

pub loop-byte-preserved : goal.loop-byte-preserved
loop-byte-preserved c =
    c.in_ok-number.ensures.number
    ∙ ap (λ (n : ℕ). n * 10 + digit_value (get_or c.args.word.now c.loop-byte.byte-index 0)) c.loop-byte.invariant
    ∙ sym (digits_value_more 10 c.args.word.now c.loop-byte.byte-index c.loop-byte-test.true)
