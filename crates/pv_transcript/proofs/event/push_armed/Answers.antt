-- A beginning of the words for an armed call: what stands before, and a beginning of the number of the call or of what comes behind it.
use Rattle.std.proofs.Common.{rules, ◌≡◌, ◌++◌, [], ap, codes, ◌∙◌}
use Rattle.pv_protocol.specs.LineText.{numbered_text}
use Rattle.pv_transcript.specs.Begins.{Begins}
use Rattle.pv_transcript.specs.ScheduleText.{armed_text, armed_word, mode_text}
use Rattle.pv_transcript.proofs.HeldLemmas.{begun_first_as, begun_next_as, begun_none, on_err}
use Rattle.pv_transcript.proofs.event.push_armed.Goals as goal

pub returns-in_err-push_numbered-2-clause-begun : goal.returns-in_err-push_numbered-2-clause-begun
returns-in_err-push_numbered-2-clause-begun c =
    let old = c.args.text.now.items in
    let mid = c.push_numbered.new.text.items in
    let new = c.push_numbered-2.new.text.items in
    let word = armed_word c.args.stops in
    let site : c.from.result ≡ c.args.site.0 = search rules in
    let call : c.from-2.result ≡ c.args.call = search rules in
    let behind = codes " " ++ mode_text c.args.mode in
    on_err c.from_residual-in_err-push_numbered-2.result (Begins new (old ++ armed_text c.args.site.0 c.args.call c.args.mode c.args.stops))
    (begun_next_as old (numbered_text word c.args.site.0) (numbered_text c.armed_word.result.now c.from.result) (numbered_text [] c.args.call ++ behind) mid new
    (ap (λ it. numbered_text it c.from.result) c.armed_word.ensures ∙ ap (numbered_text word) site) c.in_ok-push_numbered.ensures.text
    (begun_first_as mid (numbered_text [] c.args.call) (numbered_text [] c.from-2.result) behind new (ap (numbered_text []) call) c.in_err-push_numbered-2.ensures.begun))

pub returns-in_err-push_bytes-clause-begun : goal.returns-in_err-push_bytes-clause-begun
returns-in_err-push_bytes-clause-begun c =
    let old = c.args.text.now.items in
    let mid = c.push_numbered.new.text.items in
    let last = c.push_numbered-2.new.text.items in
    let new = c.push_bytes.new.text.items in
    let word = armed_word c.args.stops in
    let site : c.from.result ≡ c.args.site.0 = search rules in
    let call : c.from-2.result ≡ c.args.call = search rules in
    let behind = codes " " ++ mode_text c.args.mode in
    on_err c.from_residual-in_err-push_bytes.result (Begins new (old ++ armed_text c.args.site.0 c.args.call c.args.mode c.args.stops))
    (begun_next_as old (numbered_text word c.args.site.0) (numbered_text c.armed_word.result.now c.from.result) (numbered_text [] c.args.call ++ behind) mid new
    (ap (λ it. numbered_text it c.from.result) c.armed_word.ensures ∙ ap (numbered_text word) site) c.in_ok-push_numbered.ensures.text
    (begun_next_as mid (numbered_text [] c.args.call) (numbered_text [] c.from-2.result) behind last new (ap (numbered_text []) call) c.in_ok-push_numbered-2.ensures.text
    (begun_none last behind new c.in_err-push_bytes.ensures.unchanged)))
