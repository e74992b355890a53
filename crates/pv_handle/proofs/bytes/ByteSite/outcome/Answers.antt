-- What waits stays before what is held.
use Rattle.std.proofs.Common.{◌≡◌, refl, subst}
use Rattle.pv_embed.specs.Outcomes.{TellsOutcome}
use Rattle.pv_handle.proofs.AskLemmas.{tells-front, tells-keeps}
use Rattle.pv_handle.proofs.ByteLemmas.{front}
use Rattle.pv_handle.proofs.bytes.ByteSite.outcome.Goals as goal
use Rattle.pv_handle.specs.ByteState.{ByteState}

pub invariant_of-self : goal.invariant_of-self
invariant_of-self c = tells-keeps c.self.inside c.outcome.new.self c.self.invariant c.args.txn c.outcome.result c.outcome.ensures

pub returns : goal.returns
returns c =
    subst (λ (old : ByteState). TellsOutcome old.hosted (front c.self.inside.waiting c.outcome.new.self) c.args.txn c.outcome.result × (c.self.inside.taken ≡ old.taken) × (c.self.inside.tags.items ≡ old.tags)) c.self.view_is
    (tells-front c.self.inside.waiting c.self.inside.site c.outcome.new.self c.args.txn c.outcome.result c.outcome.ensures, refl, refl)
