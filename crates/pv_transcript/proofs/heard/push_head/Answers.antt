-- A beginning of what a line about a request begins with: of its client; or that, and a beginning of its place.
use Rattle.std.proofs.Common.{rules, ◌≡◌, ◌++◌, [], ap, codes}
use Rattle.pv_protocol.specs.LineText.{numbered_text}
use Rattle.pv_transcript.specs.Begins.{Begins}
use Rattle.pv_transcript.specs.Heard.{client_head}
use Rattle.pv_transcript.proofs.HeldLemmas.{begun_first_as, begun_next_as, on_err}
use Rattle.pv_transcript.proofs.heard.push_head.Goals as goal

pub returns-in_err-push_numbered-clause-begun : goal.returns-in_err-push_numbered-clause-begun
unfolding client_head
returns-in_err-push_numbered-clause-begun c =
    let old = c.args.text.now.items in
    let new = c.push_numbered.new.text.items in
    let client : c.from.result ≡ c.args.client = search rules in
    let more = numbered_text [] c.args.request ++ codes " " in
    on_err c.from_residual.result (Begins new (old ++ client_head c.args.client c.args.request))
    (begun_first_as old (numbered_text (codes "client") c.args.client) (numbered_text (codes "client") c.from.result) more new (ap (numbered_text (codes "client")) client)
    c.in_err-push_numbered.ensures.begun)

pub returns-in_err-push_numbered-2-clause-begun : goal.returns-in_err-push_numbered-2-clause-begun
unfolding client_head
returns-in_err-push_numbered-2-clause-begun c =
    let old = c.args.text.now.items in
    let mid = c.push_numbered.new.text.items in
    let new = c.push_numbered-2.new.text.items in
    let client : c.from.result ≡ c.args.client = search rules in
    let request : c.from-2.result ≡ c.args.request = search rules in
    let more = numbered_text [] c.args.request ++ codes " " in
    on_err c.from_residual-in_err-push_numbered-2.result (Begins new (old ++ client_head c.args.client c.args.request))
    (begun_next_as old (numbered_text (codes "client") c.args.client) (numbered_text (codes "client") c.from.result) more mid new (ap (numbered_text (codes "client")) client)
    c.in_ok-push_numbered.ensures.text
    (begun_first_as mid (numbered_text [] c.args.request) (numbered_text [] c.from-2.result) (codes " ") new (ap (numbered_text []) request)
    c.in_err-push_numbered-2.ensures.begun))
