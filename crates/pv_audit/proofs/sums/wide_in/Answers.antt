-- The digits of a number are read, and print so.
use Rattle.std.proofs.Common.{sym, ◌∙◌}
use Rattle.pv_audit.proofs.NumberLemmas.{digits-wide}
use Rattle.pv_audit.proofs.SumLemmas.{wide-read}
use Rattle.pv_audit.proofs.sums.wide_in.Goals as goal

pub returns-in_err-number-clause-none : goal.returns-in_err-number-clause-none
returns-in_err-number-clause-none c = rw c.from_residual.ensures (λ n small is.
    let wide = digits-wide c.args.word.now n small is in
    c.in_err-number.ensures.none wide.0 (rw wide.1 small))

pub returns-then-not-is_word-clause-none : goal.returns-then-not-is_word-clause-none
returns-then-not-is_word-clause-none c = λ n small is.
    (rw c.if-not-is_word.true at c.is_word.ensures) (wide-read c.args.word.now n c.in_ok-number.number small is c.in_ok-number.ensures.number ∙ sym c.format.ensures.text)
