-- The lines so far, and those of the messages that are left.
use Rattle.std.proofs.Common.{◌≡◌, ◌++◌, List, map, drop}
use Rattle.pv_format.specs.Message.{Envelope}
use Rattle.pv_protocol.specs.Report.{sent_from}
use Rattle.pv_script.specs.LineView.{line_of}
use Rattle.pv_world.specs.Carry.{Carry}
use Rattle.pv_world.proofs.sent.push_messages.Given as goal

abbrev pub invariant-loop-number : goal.invariant-loop-number
invariant-loop-number l =
    (sent : List Envelope) → Carry l.mail.posts sent
    → map line_of l.lines.items ++ sent_from l.number (drop l.number sent) ≡ map line_of l.fn.lines.items ++ sent_from 0 sent
