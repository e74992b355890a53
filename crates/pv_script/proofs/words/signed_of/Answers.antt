-- `parse` reads digits alone, and one `-` before them.
use Rattle.std.proofs.Common.{sym, ◌∙◌, IsTrue}
use Rattle.std.specs.List.{list_all}
use Rattle.pv_base.specs.Name.{is_digit}
use Rattle.pv_model.specs.Text.{digits_of}
use Rattle.pv_law_programs.proofs.NumberLemmas.{IsUtf8-signed, signed-parsed, utf8-read, utf8-text}
use Rattle.pv_script.proofs.words.signed_of.Goals as goal

pub returns-in_err-ok-clause-none : goal.returns-in_err-ok-clause-none
returns-in_err-ok-clause-none c =
    let digits : IsTrue (list_all is_digit (digits_of c.args.word.now)) = rw (← c.without_minus.ensures) (sym c.are_digits.ensures ∙ c.if-not-are_digits.false) in
    absurd (utf8-read _ _ c.args.word.now c.from_utf8.result (IsUtf8-signed c.args.word.now digits) c.from_utf8.ensures.cases c.in_err-ok.ensures.value)

pub returns-clause-number : goal.returns-clause-number
returns-clause-number c =
    let digits : IsTrue (list_all is_digit (digits_of c.args.word.now)) = rw (← c.without_minus.ensures) (sym c.are_digits.ensures ∙ c.if-not-are_digits.false) in
    let text = utf8-text _ _ c.args.word.now (λ s. s.now) c.from_utf8.result c.in_ok-ok.field-0 c.in_ok-ok.ensures.value c.from_utf8.ensures.cases in
    let parsed = signed-parsed c.args.word.now c.parse.result digits (rw text at c.parse.ensures.value.0) in
    rw c.ok-2.ensures.value (parsed.0)

pub returns-clause-none : goal.returns-clause-none
returns-clause-none c =
    let digits : IsTrue (list_all is_digit (digits_of c.args.word.now)) = rw (← c.without_minus.ensures) (sym c.are_digits.ensures ∙ c.if-not-are_digits.false) in
    let text = utf8-text _ _ c.args.word.now (λ s. s.now) c.from_utf8.result c.in_ok-ok.field-0 c.in_ok-ok.ensures.value c.from_utf8.ensures.cases in
    let parsed = signed-parsed c.args.word.now c.parse.result digits (rw text at c.parse.ensures.value.0) in
    rw c.ok-2.ensures.value (parsed.1)
