-- `parse` gives what was printed.
use Rattle.std.proofs.Common.{◌≡◌, None, Some, sym, ap, ◌∙◌}
use Rattle.std.specs.Fmt.{signed_decimal}
use Rattle.pv_law_programs.proofs.NumberLemmas.{utf8-read, utf8-text}
use Rattle.pv_audit.proofs.NumberLemmas.{parsed-signed, round-signed, utf8-signed}
use Rattle.pv_audit.proofs.words.signed_in.Goals as goal

pub returns-in_err-text-clause-none : goal.returns-in_err-text-clause-none
returns-in_err-text-clause-none c = rw c.from_residual.ensures (λ z fits is.
    utf8-read _ _ c.args.word.now c.from_utf8.result (utf8-signed c.args.word.now z fits is) c.from_utf8.ensures.cases c.in_err-text.ensures.value)

pub returns-in_err-number-clause-none : goal.returns-in_err-number-clause-none
returns-in_err-number-clause-none c = rw c.from_residual-in_err-number.ensures (λ z fits is.
    let text = utf8-text _ _ c.args.word.now (λ s. s.now) c.from_utf8.result c.in_ok-text.text c.in_ok-text.ensures.value c.from_utf8.ensures.cases in
    let never : None ≡ Some z = c.in_err-number.ensures.value ∙ parsed-signed c.args.word.now z c.parse.result fits is (rw text at c.parse.ensures.value.0) in
    cc)

pub returns-then-not-is_word-clause-none : goal.returns-then-not-is_word-clause-none
returns-then-not-is_word-clause-none c = λ z fits is.
    let text = utf8-text _ _ c.args.word.now (λ s. s.now) c.from_utf8.result c.in_ok-text.text c.in_ok-text.ensures.value c.from_utf8.ensures.cases in
    let same : Some c.in_ok-number.number ≡ Some z = c.in_ok-number.ensures.value ∙ parsed-signed c.args.word.now z c.parse.result fits is (rw text at c.parse.ensures.value.0) in
    let number : c.in_ok-number.number ≡ z = cc in
    (rw c.if-not-is_word.true at c.is_word.ensures) (is ∙ ap signed_decimal (sym (round-signed z c.in_ok-number.number fits number)) ∙ sym c.format.ensures.text)
