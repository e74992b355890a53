-- `parse` reads digits alone.
use Rattle.std.proofs.Common.{sym, ◌∙◌}
use Rattle.pv_law_programs.proofs.NumberLemmas.{IsUtf8-digits, number-parsed, utf8-read, utf8-text}
use Rattle.pv_lines.proofs.spelled.number_of.Goals as goal

pub returns-in_err-ok-clause-none : goal.returns-in_err-ok-clause-none
returns-in_err-ok-clause-none c =
    absurd (utf8-read _ _ c.args.word.now c.from_utf8.result (IsUtf8-digits c.args.word.now (sym c.are_digits.ensures ∙ c.if-not-are_digits.false)) c.from_utf8.ensures.cases c.in_err-ok.ensures.value)

pub returns-clause-number : goal.returns-clause-number
returns-clause-number c =
    let text = utf8-text _ _ c.args.word.now (λ s. s.now) c.from_utf8.result c.in_ok-ok.field-0 c.in_ok-ok.ensures.value c.from_utf8.ensures.cases in
    let parsed = number-parsed c.args.word.now c.parse.result (sym c.are_digits.ensures ∙ c.if-not-are_digits.false) (rw text at c.parse.ensures.value.0) in
    rw c.ok-2.ensures.value (parsed.0)

pub returns-clause-none : goal.returns-clause-none
returns-clause-none c =
    let text = utf8-text _ _ c.args.word.now (λ s. s.now) c.from_utf8.result c.in_ok-ok.field-0 c.in_ok-ok.ensures.value c.from_utf8.ensures.cases in
    let parsed = number-parsed c.args.word.now c.parse.result (sym c.are_digits.ensures ∙ c.if-not-are_digits.false) (rw text at c.parse.ensures.value.0) in
    rw c.ok-2.ensures.value (parsed.1)
