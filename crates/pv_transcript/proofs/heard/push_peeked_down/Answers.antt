-- A beginning of the line of a look that found the site down: of what stands before the word for that.
use Rattle.std.proofs.Common.{◌++◌, codes}
use Rattle.pv_model.specs.ReplyText.{line_feed}
use Rattle.pv_protocol.specs.LineText.{numbered_text}
use Rattle.pv_protocol.specs.Report as reading
use Rattle.pv_transcript.specs.Begins.{Begins}
use Rattle.pv_transcript.specs.Heard as heard
use Rattle.pv_transcript.specs.Heard.{client_head, heard_line}
use Rattle.pv_transcript.proofs.HeldLemmas.{begun_look, on_err}
use Rattle.pv_transcript.proofs.heard.push_peeked_down.Goals as goal

pub returns-in_err-push_look-clause-begun : goal.returns-in_err-push_look-clause-begun
returns-in_err-push_look-clause-begun c = λ catalog.
    let old = c.args.text.now.items in
    let new = c.push_look.new.text.items in
    let head = client_head c.args.client c.args.request in
    let steps = numbered_text (codes "peek") c.args.steps in
    on_err c.from_residual.result (Begins new (old ++ heard_line catalog c.args.client c.args.request (heard.peeked c.args.steps (reading.down c.args.site.0))))
    (begun_look old head steps (codes " ") (codes "down") line_feed new c.in_err-push_look.ensures.begun)
