use Rattle.pv_protocol.specs.Report.{sent_lines}
use Rattle.pv_world.proofs.world.World.push_sent.Goals as goal

pub push_messages-requires : goal.push_messages-requires
push_messages-requires c = (c.requires.0.sent, c.requires.1.sent)

pub returns : goal.returns
unfolding sent_lines
returns c is stands = c.push_messages.ensures is.sent stands.sent
