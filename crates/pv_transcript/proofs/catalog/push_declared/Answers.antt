-- A beginning of an item's line: the parts before the one that found no memory, and what there is of that.
use Rattle.std.proofs.Common.{rules, ◌≡◌, ◌++◌, [], ap, codes}
use Rattle.std.specs.Fmt.{signed_decimal}
use Rattle.pv_model.specs.ReplyText.{line_feed}
use Rattle.pv_protocol.specs.LineText.{numbered_text}
use Rattle.pv_transcript.specs.Begins.{Begins}
use Rattle.pv_transcript.specs.ScheduleText.{item_line}
use Rattle.pv_transcript.proofs.HeldLemmas.{begun_first_as, begun_next, begun_next_as, begun_none, on_err}
use Rattle.pv_transcript.proofs.catalog.push_declared.Goals as goal

pub returns-in_err-push_bytes-2-clause-begun : goal.returns-in_err-push_bytes-2-clause-begun
unfolding item_line
returns-in_err-push_bytes-2-clause-begun c =
    let old = c.args.text.now.items in
    let mid = c.push_bytes.new.text.items in
    let new = c.push_bytes-2.new.text.items in
    let value = codes " " ++ (signed_decimal c.args.value ++ line_feed) in
    let more = c.args.name.now ++ (numbered_text [] c.args.site.0 ++ value) in
    on_err c.from_residual-in_err-push_bytes-2.result
    (Begins new (old ++ item_line (record { name = c.args.name.now; site = c.args.site.0; value = c.args.value })))
    (begun_next old (codes "item ") more mid new c.in_ok-push_bytes.ensures.text (begun_none mid more new c.in_err-push_bytes-2.ensures.unchanged))

pub returns-in_err-push_numbered-clause-begun : goal.returns-in_err-push_numbered-clause-begun
unfolding item_line
returns-in_err-push_numbered-clause-begun c =
    let old = c.args.text.now.items in
    let first = c.push_bytes.new.text.items in
    let mid = c.push_bytes-2.new.text.items in
    let new = c.push_numbered.new.text.items in
    let site : c.from.result ≡ c.args.site.0 = search rules in
    let value = codes " " ++ (signed_decimal c.args.value ++ line_feed) in
    let more = numbered_text [] c.args.site.0 ++ value in
    on_err c.from_residual-in_err-push_numbered.result
    (Begins new (old ++ item_line (record { name = c.args.name.now; site = c.args.site.0; value = c.args.value })))
    (begun_next old (codes "item ") (c.args.name.now ++ more) first new c.in_ok-push_bytes.ensures.text
    (begun_next first c.args.name.now more mid new c.in_ok-push_bytes-2.ensures.text
    (begun_first_as mid (numbered_text [] c.args.site.0) (numbered_text [] c.from.result) value new (ap (numbered_text []) site) c.in_err-push_numbered.ensures.begun)))

pub returns-in_err-push_bytes-3-clause-begun : goal.returns-in_err-push_bytes-3-clause-begun
unfolding item_line
returns-in_err-push_bytes-3-clause-begun c =
    let old = c.args.text.now.items in
    let first = c.push_bytes.new.text.items in
    let mid = c.push_bytes-2.new.text.items in
    let last = c.push_numbered.new.text.items in
    let new = c.push_bytes-3.new.text.items in
    let site : c.from.result ≡ c.args.site.0 = search rules in
    let value = codes " " ++ (signed_decimal c.args.value ++ line_feed) in
    let more = numbered_text [] c.args.site.0 ++ value in
    on_err c.from_residual-in_err-push_bytes-3.result
    (Begins new (old ++ item_line (record { name = c.args.name.now; site = c.args.site.0; value = c.args.value })))
    (begun_next old (codes "item ") (c.args.name.now ++ more) first new c.in_ok-push_bytes.ensures.text
    (begun_next first c.args.name.now more mid new c.in_ok-push_bytes-2.ensures.text
    (begun_next_as mid (numbered_text [] c.args.site.0) (numbered_text [] c.from.result) value last new (ap (numbered_text []) site)
    c.in_ok-push_numbered.ensures.text (begun_none last value new c.in_err-push_bytes-3.ensures.unchanged))))

pub returns-in_err-push_signed-clause-begun : goal.returns-in_err-push_signed-clause-begun
unfolding item_line
returns-in_err-push_signed-clause-begun c =
    let old = c.args.text.now.items in
    let first = c.push_bytes.new.text.items in
    let mid = c.push_bytes-2.new.text.items in
    let last = c.push_numbered.new.text.items in
    let spaced = c.push_bytes-3.new.text.items in
    let new = c.push_signed.new.text.items in
    let site : c.from.result ≡ c.args.site.0 = search rules in
    let digits = signed_decimal c.args.value ++ line_feed in
    let value = codes " " ++ digits in
    let more = numbered_text [] c.args.site.0 ++ value in
    on_err c.from_residual-in_err-push_signed.result
    (Begins new (old ++ item_line (record { name = c.args.name.now; site = c.args.site.0; value = c.args.value })))
    (begun_next old (codes "item ") (c.args.name.now ++ more) first new c.in_ok-push_bytes.ensures.text
    (begun_next first c.args.name.now more mid new c.in_ok-push_bytes-2.ensures.text
    (begun_next_as mid (numbered_text [] c.args.site.0) (numbered_text [] c.from.result) value last new (ap (numbered_text []) site)
    c.in_ok-push_numbered.ensures.text
    (begun_next last (codes " ") digits spaced new c.in_ok-push_bytes-3.ensures.text (begun_none spaced digits new c.in_err-push_signed.ensures.unchanged)))))
