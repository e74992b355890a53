use Rattle.std.proofs.Common.{true, refl, sym, subst}
use Rattle.pv_format.specs.Message.{Envelope}
use Rattle.pv_format.specs.MessageSpelling.{SpellsEnvelope}
use Rattle.pv_wire.specs.Values.{message_of}
use Rattle.pv_world.proofs.SendLemmas.{sent-becomes}
use Rattle.pv_world.proofs.world.World.send.Goals as goal

pub returns : goal.returns
returns c is stands =
    let world = c.args.self.now in
    let envelope : Envelope = record { from = c.args.from.0; to = c.args.outgoing.to.0; message = message_of c.args.outgoing.message } in
    sent-becomes world (record world { mail = c.post-posted.new.self; spare = c.take_back.new.self }) is (record { to = c.args.outgoing.to.0; bytes = c.deref.result.now; fresh = true }) envelope c.post-posted.result stands
    refl refl refl refl (subst (SpellsEnvelope envelope) (sym c.deref.ensures.value) c.in_ok-bytes.ensures) refl c.post-posted.ensures.sent c.post-posted.ensures.within c.post-posted.ensures.limit
