-- What waits stays before what the tick brings.
use Rattle.std.proofs.Common.{◌≡◌, refl, subst}
use Rattle.pv_protocol.specs.State as model
use Rattle.pv_embed.specs.Hosted.{Gives}
use Rattle.pv_handle.proofs.ByteLemmas.{front, gives-front}
use Rattle.pv_handle.proofs.KeepLemmas.{gives-keeps}
use Rattle.pv_handle.proofs.bytes.ByteSite.tick.Goals as goal
use Rattle.pv_handle.specs.ByteState.{ByteState}

pub invariant_of-self : goal.invariant_of-self
invariant_of-self c = gives-keeps c.self.inside c.tick.new.self c.self.invariant model.tick c.tick.result c.tick.ensures

pub returns : goal.returns
returns c =
    subst (λ (old : ByteState). Gives old.hosted (front c.self.inside.waiting c.tick.new.self) model.tick c.tick.result × (c.self.inside.taken ≡ old.taken) × (c.self.inside.tags.items ≡ old.tags)) c.self.view_is
    (gives-front c.self.inside.waiting c.self.inside.site c.tick.new.self model.tick c.tick.result c.tick.ensures, refl, refl)
