-- The output, and then the end.
use Rattle.std.proofs.Common.{length, sym, ap, ◌∙◌, arith}
use Rattle.pv_bytes.specs.Reading.{Rest}
use Rattle.pv_outbox.specs.declared.record.Record.TheVariants.{Taken}
use Rattle.pv_outbox.proofs.ReadingLemmas.{whole-content}
use Rattle.pv_outbox.proofs.SpellingLemmas.{no-more, no-number, taken-content}
use Rattle.pv_outbox.proofs.record.decode_taken.Goals as goal

pub returns-in_default : goal.returns-in_default
returns-in_default c =
    let same = ap (λ (rest : Rest). length rest.left) c.new-take.ensures in
    no-number c.args.content.now (omega (arith, same, c.in_default.ensures.short.fewer))

pub returns : goal.returns
returns c =
    let read = sym (ap (λ (rest : Rest). rest.left) c.new-take.ensures) ∙ c.in-Ok.ensures.taken.bytes in
    whole-content 19 c.args.content.now c.left.result.now (Taken c.in-Ok.output) c.whole.result c.whole.ensures
    (λ more. no-more c.args.content.now c.u32.new.self.left c.in-Ok.output (omega arith) read (λ none. more (c.left.ensures ∙ none)))
    (λ none. taken-content c.args.content.now c.u32.new.self.left c.in-Ok.output (omega arith) read (sym c.left.ensures ∙ none))
