-- A beginning of the line of a look that found the item locked: of what stands before the words, that, or the first of them too.
use Rattle.std.proofs.Common.{◌++◌, codes, subst, sym, append_assoc}
use Rattle.pv_base.specs.Txn.{txn_text}
use Rattle.pv_model.specs.ReplyText.{line_feed}
use Rattle.pv_protocol.specs.LineText.{numbered_text}
use Rattle.pv_protocol.specs.Report as reading
use Rattle.pv_transcript.specs.Begins.{Begins}
use Rattle.pv_transcript.specs.Heard as heard
use Rattle.pv_transcript.specs.Heard.{client_head, heard_line}
use Rattle.pv_transcript.proofs.HeldLemmas.{begun_look, begun_next, begun_none, begun_words, on_err}
use Rattle.pv_transcript.proofs.heard.push_peeked_locked.Goals as goal

pub returns-in_err-push_look-clause-begun : goal.returns-in_err-push_look-clause-begun
returns-in_err-push_look-clause-begun c = λ catalog.
    let old = c.args.text.now.items in
    let new = c.push_look.new.text.items in
    let head = client_head c.args.client c.args.request in
    let steps = numbered_text (codes "peek") c.args.steps in
    on_err c.from_residual.result (Begins new (old ++ heard_line catalog c.args.client c.args.request (heard.peeked c.args.steps (reading.locked c.args.holder))))
    (begun_look old head steps (codes " ") (codes "locked " ++ txn_text c.args.holder) line_feed new c.in_err-push_look.ensures.begun)

pub returns-in_err-push_bytes-clause-begun : goal.returns-in_err-push_bytes-clause-begun
returns-in_err-push_bytes-clause-begun c = λ catalog.
    let old = c.args.text.now.items in
    let mid = c.push_look.new.text.items in
    let new = c.push_bytes.new.text.items in
    let head = client_head c.args.client c.args.request in
    let steps = numbered_text (codes "peek") c.args.steps in
    on_err c.from_residual-in_err-push_bytes.result (Begins new (old ++ heard_line catalog c.args.client c.args.request (heard.peeked c.args.steps (reading.locked c.args.holder))))
    (begun_words old head steps (codes " ") (codes "locked " ++ txn_text c.args.holder) line_feed mid new c.in_ok-push_look.ensures.text
    (begun_none mid ((codes "locked " ++ txn_text c.args.holder) ++ line_feed) new c.in_err-push_bytes.ensures.unchanged))

pub returns-in_err-push_txn-clause-begun : goal.returns-in_err-push_txn-clause-begun
returns-in_err-push_txn-clause-begun c = λ catalog.
    let old = c.args.text.now.items in
    let mid = c.push_look.new.text.items in
    let last = c.push_bytes.new.text.items in
    let new = c.push_txn.new.text.items in
    let head = client_head c.args.client c.args.request in
    let steps = numbered_text (codes "peek") c.args.steps in
    on_err c.from_residual-in_err-push_txn.result (Begins new (old ++ heard_line catalog c.args.client c.args.request (heard.peeked c.args.steps (reading.locked c.args.holder))))
    (begun_words old head steps (codes " ") (codes "locked " ++ txn_text c.args.holder) line_feed mid new c.in_ok-push_look.ensures.text
    (subst (λ it. Begins new (mid ++ it)) (sym (append_assoc (codes "locked ") (txn_text c.args.holder) line_feed))
    (begun_next mid (codes "locked ") (txn_text c.args.holder ++ line_feed) last new c.in_ok-push_bytes.ensures.text
    (begun_none last (txn_text c.args.holder ++ line_feed) new c.in_err-push_txn.ensures.unchanged))))
