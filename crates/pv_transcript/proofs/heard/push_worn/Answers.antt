-- What the line begins with, and a beginning of the words for a full history.
use Rattle.std.proofs.Common.{rules, ◌≡◌, ◌++◌, ap, codes}
use Rattle.pv_model.specs.ReplyText.{line_feed}
use Rattle.pv_protocol.specs.LineText.{numbered_text}
use Rattle.pv_transcript.specs.Begins.{Begins}
use Rattle.pv_transcript.specs.Heard as heard
use Rattle.pv_transcript.specs.Heard.{client_head, heard_line}
use Rattle.pv_transcript.proofs.HeldLemmas.{begun_first_as, begun_next, on_err}
use Rattle.pv_transcript.proofs.heard.push_worn.Goals as goal

pub returns-in_err-push_numbered-clause-begun : goal.returns-in_err-push_numbered-clause-begun
returns-in_err-push_numbered-clause-begun c = λ catalog.
    let old = c.args.text.now.items in
    let mid = c.push_head.new.text.items in
    let new = c.push_numbered.new.text.items in
    let site : c.from.result ≡ c.args.site.0 = search rules in
    on_err c.from_residual-in_err-push_numbered.result (Begins new (old ++ heard_line catalog c.args.client c.args.request (heard.worn c.args.site.0)))
    (begun_next old (client_head c.args.client c.args.request) (numbered_text (codes "worn") c.args.site.0 ++ line_feed) mid new c.in_ok-push_head.ensures.text
    (begun_first_as mid (numbered_text (codes "worn") c.args.site.0) (numbered_text (codes "worn") c.from.result) line_feed new
    (ap (numbered_text (codes "worn")) site) c.in_err-push_numbered.ensures.begun))
