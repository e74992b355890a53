-- The output, its condition, and then the end.
use Rattle.std.proofs.Common.{length, sym, ap, ◌∙◌, arith}
use Rattle.pv_bytes.specs.Reading.{Rest}
use Rattle.pv_outbox.specs.declared.record.Record.TheVariants.{Held}
use Rattle.pv_outbox.proofs.ReadingLemmas.{more-than-condition, no-condition, none-content, whole-content}
use Rattle.pv_outbox.proofs.SpellingLemmas.{held-content, no-output}
use Rattle.pv_outbox.proofs.record.decode_held.Goals as goal

pub returns-in_default : goal.returns-in_default
returns-in_default c =
    let same = ap (λ (rest : Rest). length rest.left) c.new-take.ensures in
    no-output c.args.content.now (omega (arith, same, c.in_default.ensures.short.fewer))

pub returns-in-Ok-take_poly : goal.returns-in-Ok-take_poly
returns-in-Ok-take_poly c =
    let read = sym (ap (λ (rest : Rest). rest.left) c.new-take.ensures) ∙ c.in-Ok.ensures.taken.bytes in
    whole-content 17 c.args.content.now c.left.result.now (Held c.in-Ok.output c.in-Ok-take_poly.when) c.whole.result c.whole.ensures
    (λ more.
    more-than-condition c.args.content.now c.u32.new.self.left c.in-Ok.output (omega arith) read c.u32.new.self.place c.in-Ok-take_poly.ensures.answer.one
    c.in-Ok-take_poly.when c.take_poly.new.take.left c.in-Ok-take_poly.ensures.answer.given (λ none. more (c.left.ensures ∙ none)))
    (λ none.
    held-content c.args.content.now c.u32.new.self.left c.in-Ok.output (omega arith) read c.in-Ok-take_poly.when c.take_poly.new.take.left (sym c.left.ensures ∙ none)
    c.in-Ok-take_poly.ensures.answer.given)

pub returns-in-Err : goal.returns-in-Err
returns-in-Err c =
    let read = sym (ap (λ (rest : Rest). rest.left) c.new-take.ensures) ∙ c.in-Ok.ensures.taken.bytes in
    none-content 17 c.args.content.now c.in-Err.e c.no_record.result c.no_record.ensures
    (λ memory.
    no-condition c.args.content.now c.u32.new.self.left c.in-Ok.output (omega arith) read c.u32.new.self.place c.in-Err.ensures.answer.one c.in-Err.e memory
    c.in-Err.ensures.answer.refused)
