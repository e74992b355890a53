-- What is spelled isn't long.
use Rattle.std.proofs.Common.{arith}
use Rattle.pv_fields.proofs.SizeLemmas.{body_small}
use Rattle.pv_wire.specs.Values.{message_of}
use Rattle.pv_wire.proofs.encoding.encode.Goals as goal

pub body_length-requires : goal.body_length-requires
body_length-requires c =
    let spelled = c.requires.1.second.second.second in
    let small = body_small (message_of c.args.envelope.now.message) spelled.back spelled.second in
    omega (arith, small)
