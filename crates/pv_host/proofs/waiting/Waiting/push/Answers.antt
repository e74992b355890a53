use Rattle.std.proofs.Common.{rules, ◌++◌, ◌∷◌, [], refl, ap, ◌∙◌}
use Rattle.pv_format.specs.Journal.{framed}
use Rattle.pv_host.proofs.WaitingLemmas.{record-pushed, view-is}
use Rattle.pv_host.proofs.waiting.Waiting.push.Goals as goal

pub invariant_of-self : goal.invariant_of-self
invariant_of-self c =
    let tail = framed c.args.content.now ++ 0 ∷ [] in
    (record-pushed c.self.inside c.args.self.now c.self.view_is c.self.invariant (record { bytes = c.put_record.new.records; frozen = c.self.inside.frozen })
    c.args.content.now c.requires.short refl (λ less. c.put_record.ensures.items ∙ ap (λ l. l ++ tail) (c.open_last.ensures.opened (search rules)))
    (λ le. c.put_record.ensures.items ∙ ap (λ l. l ++ tail) (c.open_last.ensures.none (search rules)))).good

pub returns : goal.returns
returns c =
    let tail = framed c.args.content.now ++ 0 ∷ [] in
    view-is (record { bytes = c.put_record.new.records; frozen = c.self.inside.frozen }) c.args.self.now.asked (c.args.self.now.pending ++ c.args.content.now ∷ [])
    (record-pushed c.self.inside c.args.self.now c.self.view_is c.self.invariant (record { bytes = c.put_record.new.records; frozen = c.self.inside.frozen })
    c.args.content.now c.requires.short refl (λ less. c.put_record.ensures.items ∙ ap (λ l. l ++ tail) (c.open_last.ensures.opened (search rules)))
    (λ le. c.put_record.ensures.items ∙ ap (λ l. l ++ tail) (c.open_last.ensures.none (search rules))))
