-- The messages so far were sent.
use Rattle.std.proofs.Common.{◌≡◌, ◌++◌, true, map, take}
use Rattle.pv_quorum_run.specs.Mail.{sent_by}
use Rattle.pv_quorum_run.proofs.events.post_all.Given as goal

abbrev pub invariant-loop-send : goal.invariant-loop-send
invariant-loop-send l =
    l.mail ≡ record {
      sent = l.fn.mail.sent ++ map (sent_by l.from) (take l.send-index l.sends);
      fresh = l.fn.mail.fresh ++ map (λ send. true) (take l.send-index l.sends);
    }
