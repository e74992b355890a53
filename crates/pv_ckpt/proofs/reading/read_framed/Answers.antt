use Rattle.std.proofs.Common.{rules, arith, ◌≡◌, ℕ, ◌+◌, ◌-◌, List, Some, Vec, Global, vec_len, length, take, drop, refl, sym, ◌∙◌}
use Rattle.pv_base.specs.BigEndian.{big_endian}
use Rattle.pv_format.specs.Journal.{framed}
use Rattle.pv_ckpt.specs.Reading.{BeginsAt}
use Rattle.pv_ckpt.proofs.FramedLemmas.{IfOk-both, framed_stands, lacking_within}
use Rattle.pv_ckpt.proofs.reading.read_framed.Goals as goal

pub returns-in_err-count-clause-gave_none : goal.returns-in_err-count-clause-gave_none
returns-in_err-count-clause-gave_none g c shown known =
    let gave = c.length_at.ensures.gave_none shown (search rules) in
    (gave.0, gave.1, omega (arith, lacking_within gave.0 (c.args.end - c.args.place) gave.2, c.requires.within))

pub returns-clause-stands : goal.returns-clause-stands
returns-clause-stands g c =
    let content_of = g.D.Disk.model.content in
    let place = c.args.place in
    let count = c.in_ok-count.count in
    IfOk-both (λ (content : Vec ℕ Global). (bytes : List ℕ) → content_of c.length_at.new.disk ≡ Some bytes → content.items ≡ take count (drop (place + 4) bytes))
    (λ (content : Vec ℕ Global). vec_len content ≡ count)
    (λ (content : Vec ℕ Global). (bytes : List ℕ) → content_of c.args.disk.now ≡ Some bytes → BeginsAt bytes place (framed content.items))
    c.read_content.result c.read_content.ensures.bytes c.read_content.ensures.count
    (λ content read size bytes is.
    let long : length content.items ≡ vec_len content = search rules in
    framed_stands bytes (big_endian 4 count) content.items place count (sym (c.in_ok-count.ensures.stands bytes is)) refl
    (read bytes (c.in_ok-count.ensures.effect.1 ∙ is)) (long ∙ size))
