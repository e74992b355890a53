-- The kind, and then what the kind has.
use Rattle.std.proofs.Common.{◌≡◌, ◌++◌, MatchOption, length, sym, ap, subst, ◌∙◌, arith}
use Rattle.std.proofs.lemmas.Result.{IfOk-weaker}
use Rattle.pv_base.specs.BigEndian.{big_endian}
use Rattle.pv_bytes.specs.Reading.{Rest}
use Rattle.pv_outbox.specs.Spelling.{IsContent, IsNoContent}
use Rattle.pv_outbox.specs.Values.{record_of}
use Rattle.pv_outbox.proofs.SpellingLemmas.{either-content, no-kind, no-such-kind}
use Rattle.pv_outbox.proofs.record.decode_record.Goals as goal

pub returns-in_default : goal.returns-in_default
returns-in_default c =
    let same = ap (λ (rest : Rest). length rest.left) c.new-take.ensures in
    no-kind c.args.content.now (omega (arith, same, c.in_default.ensures.short.fewer))

pub returns-then-kind-eq-HELD : goal.returns-then-kind-eq-HELD
returns-then-kind-eq-HELD c =
    let read = sym (ap (λ (rest : Rest). rest.left) c.new-take.ensures) ∙ c.in-Ok.ensures.taken.bytes in
    IfOk-weaker c.decode_held.result _ _
    (λ found is. either-content c.args.content.now c.u8.new.self.left 17 (omega arith) (subst (λ kind. c.args.content.now ≡ big_endian 1 kind ++ c.u8.new.self.left) c.if-kind-eq-HELD.true read) found
    (subst (λ left. MatchOption found (IsNoContent 17 left) (λ value. IsContent 17 (record_of value) left)) c.left.ensures is))
    c.decode_held.ensures

pub returns-then-kind-eq-LEARNT : goal.returns-then-kind-eq-LEARNT
returns-then-kind-eq-LEARNT c =
    let read = sym (ap (λ (rest : Rest). rest.left) c.new-take.ensures) ∙ c.in-Ok.ensures.taken.bytes in
    either-content c.args.content.now c.u8.new.self.left 18 (omega arith) (subst (λ kind. c.args.content.now ≡ big_endian 1 kind ++ c.u8.new.self.left) c.if-kind-eq-LEARNT.true read)
    c.decode_learnt.result
    (subst (λ left. MatchOption c.decode_learnt.result (IsNoContent 18 left) (λ value. IsContent 18 (record_of value) left)) c.left-then-kind-eq-LEARNT.ensures c.decode_learnt.ensures)

pub returns-then-kind-eq-TAKEN : goal.returns-then-kind-eq-TAKEN
returns-then-kind-eq-TAKEN c =
    let read = sym (ap (λ (rest : Rest). rest.left) c.new-take.ensures) ∙ c.in-Ok.ensures.taken.bytes in
    either-content c.args.content.now c.u8.new.self.left 19 (omega arith) (subst (λ kind. c.args.content.now ≡ big_endian 1 kind ++ c.u8.new.self.left) c.if-kind-eq-TAKEN.true read)
    c.decode_taken.result
    (subst (λ left. MatchOption c.decode_taken.result (IsNoContent 19 left) (λ value. IsContent 19 (record_of value) left)) c.left-then-kind-eq-TAKEN.ensures c.decode_taken.ensures)

pub returns : goal.returns
returns c =
    let read = sym (ap (λ (rest : Rest). rest.left) c.new-take.ensures) ∙ c.in-Ok.ensures.taken.bytes in
    no-such-kind c.args.content.now c.u8.new.self.left c.in-Ok.kind (omega arith) read c.if-kind-eq-HELD.false c.if-kind-eq-LEARNT.false c.if-kind-eq-TAKEN.false
