-- A beginning of what the line of a look begins with: of its place, or of the number of entries behind that.
use Rattle.std.proofs.Common.{◌++◌, codes}
use Rattle.pv_protocol.specs.LineText.{numbered_text}
use Rattle.pv_transcript.specs.Begins.{Begins}
use Rattle.pv_transcript.specs.Heard.{client_head}
use Rattle.pv_transcript.proofs.HeldLemmas.{begun_first, begun_next, on_err}
use Rattle.pv_transcript.proofs.heard.push_look.Goals as goal

pub returns-in_err-push_numbered-clause-begun : goal.returns-in_err-push_numbered-clause-begun
returns-in_err-push_numbered-clause-begun c =
    let old = c.args.text.now.items in
    let mid = c.push_head.new.text.items in
    let new = c.push_numbered.new.text.items in
    let steps = numbered_text (codes "peek") c.args.steps in
    on_err c.from_residual-in_err-push_numbered.result (Begins new (old ++ (client_head c.args.client c.args.request ++ (steps ++ codes " "))))
    (begun_next old (client_head c.args.client c.args.request) (steps ++ codes " ") mid new c.in_ok-push_head.ensures.text
    (begun_first mid steps (codes " ") new c.in_err-push_numbered.ensures.begun))
