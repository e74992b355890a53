use Rattle.std.proofs.Common.{◌++◌, map, refl, sym, ap, ◌∙◌, arith, append-nil}
use Rattle.pv_protocol.specs.Report.{sent_from}
use Rattle.pv_script.specs.LineView.{line_of}
use Rattle.pv_world.proofs.MailWorld.{length-carried}
use Rattle.pv_world.proofs.SentLemmas.{message-step, drop-past}
use Rattle.pv_world.proofs.sent.push_messages.Goals as goal

pub loop-number-init : goal.loop-number-init
loop-number-init c sent carry = refl

pub loop-number-preserved : goal.loop-number-preserved
loop-number-preserved c sent carry =
    message-step c.args.mail.now.posts sent c.loop-number.number (map line_of c.loop-number.lines.items) (map line_of c.push_message.new.lines.items)
    (map line_of c.args.lines.now.items ++ sent_from 0 sent) carry (omega arith)
    (λ post envelope there spells. c.in_ok-push_message.ensures post envelope there spells) (c.loop-number.invariant sent carry)

pub returns : goal.returns
returns c sent carry =
    let old = map line_of c.loop-number.lines.items in
    let at = c.loop-number.number in
    let whole = length-carried c.args.mail.now.posts sent carry in
    let end = c.len-number-end.ensures in
    let past = drop-past sent at (omega arith) in
    sym (append-nil old) ∙ ap (λ envelopes. old ++ sent_from at envelopes) (sym past) ∙ c.loop-number.invariant sent carry
