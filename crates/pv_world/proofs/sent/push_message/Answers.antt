use Rattle.pv_world.proofs.DeliverLemmas.{found}
use Rattle.pv_world.proofs.sent.push_message.Goals as goal

pub line_of-requires : goal.line_of-requires
line_of-requires c =
    let message = found c.args.mail.now.posts c.requires.0 c.args.number c.in-Some.bytes.now c.requires.1 c.in-Some.ensures in
    (message.envelope, message.spells)
