-- What waits stays before what the message brings.
use Rattle.std.proofs.Common.{◌≡◌, refl, subst}
use Rattle.pv_embed.specs.Requests.{ReceivesBy}
use Rattle.pv_handle.proofs.ByteLemmas.{front, receives-front}
use Rattle.pv_handle.proofs.KeepLemmas.{receives-keeps}
use Rattle.pv_handle.proofs.bytes.ByteSite.receive.Goals as goal
use Rattle.pv_handle.specs.ByteState.{ByteState}

pub invariant_of-self : goal.invariant_of-self
invariant_of-self c = receives-keeps c.self.inside c.receive.new.self c.self.invariant c.args.bytes.now c.receive.result c.receive.ensures

pub returns : goal.returns
returns c =
    subst (λ (old : ByteState). ReceivesBy old.hosted (front c.self.inside.waiting c.receive.new.self) c.args.bytes.now c.receive.result × (c.self.inside.taken ≡ old.taken) × (c.self.inside.tags.items ≡ old.tags)) c.self.view_is
    (receives-front c.self.inside.waiting c.self.inside.site c.receive.new.self c.args.bytes.now c.receive.result c.receive.ensures, refl, refl)
