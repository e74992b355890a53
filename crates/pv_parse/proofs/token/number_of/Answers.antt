-- `parse` reads digits alone.
use Rattle.pv_law_programs.proofs.NumberLemmas.{utf8-read, utf8-text}
use Rattle.pv_parse.proofs.NumberLemmas.{digits-text, digits-parsed}
use Rattle.pv_parse.proofs.token.number_of.Goals as goal

pub returns-in_err-ok-clause-none : goal.returns-in_err-ok-clause-none
returns-in_err-ok-clause-none c =
    absurd (utf8-read _ _ c.args.digits.now c.from_utf8.result (digits-text c.args.digits.now c.requires.digits) c.from_utf8.ensures.cases c.in_err-ok.ensures.value)

pub returns-clause-number : goal.returns-clause-number
returns-clause-number c =
    let text = utf8-text _ _ c.args.digits.now (λ s. s.now) c.from_utf8.result c.in_ok-ok.field-0 c.in_ok-ok.ensures.value c.from_utf8.ensures.cases in
    let parsed = digits-parsed c.args.digits.now c.parse.result c.requires.digits (rw text at c.parse.ensures.value.0) in
    rw c.ok-2.ensures.value (parsed.0)

pub returns-clause-none : goal.returns-clause-none
returns-clause-none c =
    let text = utf8-text _ _ c.args.digits.now (λ s. s.now) c.from_utf8.result c.in_ok-ok.field-0 c.in_ok-ok.ensures.value c.from_utf8.ensures.cases in
    let parsed = digits-parsed c.args.digits.now c.parse.result c.requires.digits (rw text at c.parse.ensures.value.0) in
    rw c.ok-2.ensures.value (parsed.1)
